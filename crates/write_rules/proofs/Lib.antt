pub mod Orders
pub mod Writes
pub mod CommonFaults
