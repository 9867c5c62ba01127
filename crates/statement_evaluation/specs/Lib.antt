pub mod Terms
pub mod Whole
pub mod Attempts
pub mod Rows
pub mod Noted
pub mod LeastFaults
pub mod Effects
