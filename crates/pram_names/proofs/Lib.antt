pub mod Judging
pub mod Uses
pub mod Names
pub mod Expressions
pub mod Locals
pub mod Chains
