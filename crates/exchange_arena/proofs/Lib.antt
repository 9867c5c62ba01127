pub mod Crosses
pub mod Memory
pub mod PieceLists
pub mod Places
pub mod Seen
pub mod Values
