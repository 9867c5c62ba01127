pub mod Holding
pub mod Renumbering
pub mod Passing
pub mod Fusing
pub mod Worked
