pub mod Lines
pub mod Comments
pub mod Again
pub mod Expands
