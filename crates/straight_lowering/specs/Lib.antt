pub mod Written
pub mod Straight
pub mod Operands
pub mod Depths
pub mod Cursors
pub mod Operators
pub mod Room
