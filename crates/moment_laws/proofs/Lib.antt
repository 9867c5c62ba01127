pub mod Leading
pub mod Left
pub mod Runs
pub mod Statements
pub mod Inside
pub mod Outside
pub mod Whole
