pub mod Examples
pub mod FaultExamples
pub mod WorkedExamples
pub mod SmallExamples
