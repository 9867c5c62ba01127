pub mod Front
pub mod Headings
pub mod Cells
pub mod Assignments
pub mod Memory
pub mod Chosen
pub mod InputText
