pub mod Endless
pub mod Search
