pub mod Grades
pub mod Facts
pub mod Stepped
pub mod Left
