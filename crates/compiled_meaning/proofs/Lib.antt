pub mod EachStatement
pub mod Inside
pub mod Outside
pub mod Opening
pub mod Ending
pub mod Outcomes
pub mod Supersteps
