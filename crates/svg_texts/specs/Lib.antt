pub mod Letters
pub mod Plain
pub mod Shapes
pub mod WellFormed
