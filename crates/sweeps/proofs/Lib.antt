pub mod Rows
pub mod Candidates
pub mod Solved
pub mod Multiples
pub mod Dependence
pub mod Eliminations
pub mod Ring
pub mod Entries
pub mod Linear
pub mod Sizes
pub mod Digits
pub mod Terms
mod ReadBack
pub mod Tabled
