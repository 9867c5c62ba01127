pub mod Traced
pub mod Picture
pub mod Cost
