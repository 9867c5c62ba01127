pub mod Growing
pub mod Lists
pub mod Joining
pub mod Parts
pub mod Reading
pub mod Marking
pub mod Before
