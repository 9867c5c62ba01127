pub mod Parts
pub mod Workers
pub mod Runs
pub mod Giving
pub mod Given
pub mod Numbered
pub mod Formed
pub mod Packs
