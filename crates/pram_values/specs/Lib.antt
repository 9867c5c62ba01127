pub mod Value
pub mod Truth
pub mod Division
pub mod Place
pub mod Total
