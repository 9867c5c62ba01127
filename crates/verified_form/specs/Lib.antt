pub mod FormedCode
pub mod Straight
pub mod Calm
