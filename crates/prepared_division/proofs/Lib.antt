pub mod Factors
pub mod Powers
