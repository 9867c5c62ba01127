pub mod Blocks
pub mod Parts
pub mod Room
