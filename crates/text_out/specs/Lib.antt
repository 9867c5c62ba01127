pub mod Out
pub mod Printing
