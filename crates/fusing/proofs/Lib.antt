pub mod Moving
pub mod FormedAgain
pub mod Given
pub mod Follows
pub mod Fused
pub mod Pass
pub mod Taking
pub mod ByLists
