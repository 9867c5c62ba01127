pub mod Values
pub mod Shares
pub mod Keeping
pub mod Runs
pub mod Messages
pub mod Outcomes
pub mod FlatValues
