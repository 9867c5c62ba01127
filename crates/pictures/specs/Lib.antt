pub mod Acts
pub mod Looks
pub mod Faults
pub mod Steps
pub mod Flows
pub mod Sizes
pub mod Streamed
