pub mod Orders
pub mod Names
pub mod Kinds
