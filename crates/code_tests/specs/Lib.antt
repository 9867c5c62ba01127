pub mod Flood
pub mod TwoMessages
