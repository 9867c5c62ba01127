pub mod Words
pub mod Names
pub mod Options
pub mod Values
pub mod Sentences
pub mod Given
pub mod Expanded
