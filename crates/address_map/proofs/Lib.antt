pub mod Inverse
pub mod Faults
pub mod RoundSteps
pub mod Reciprocals
