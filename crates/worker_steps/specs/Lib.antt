pub mod Shown
pub mod Fitted
pub mod Met
pub mod Kinds
pub mod Done
pub mod Held
pub mod Stretch
