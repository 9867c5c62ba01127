pub mod Spelled
pub mod OfSteps
pub mod OfFlows
pub mod OfSizes
