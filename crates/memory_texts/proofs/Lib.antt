pub mod Entries
pub mod Within
pub mod Numbers
pub mod Lines
pub mod Puts
pub mod Refusals
pub mod Parts
pub mod ReadBack
