pub mod Events
pub mod Bound
pub mod Spent
pub mod Accesses
