pub mod Places
pub mod Titles
pub mod Marks
pub mod Labels
pub mod Picture
