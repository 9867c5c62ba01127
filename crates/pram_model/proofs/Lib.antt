pub mod Truths
pub mod Layouts
pub mod Cells
pub mod Texts
