pub mod Terms
pub mod Environments
pub mod Headings
pub mod Outside
pub mod Inside
pub mod Tasks
pub mod Writes
