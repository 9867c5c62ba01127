pub mod Chains
pub mod Appended
pub mod Levels
pub mod Rooms
