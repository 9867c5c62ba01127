pub mod Alike
pub mod AlikeAll
pub mod Cycles
pub mod Told
pub mod Walk
pub mod LoopWalk
pub mod ForWalk
pub mod Never
