pub mod Held
pub mod Files
