pub mod Files
pub mod OneByOne
pub mod Telling
