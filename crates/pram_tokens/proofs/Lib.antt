pub mod Real
pub mod Values
pub mod Lexing
pub mod Scans
pub mod Inputs
pub mod Offsets
pub mod Digits
