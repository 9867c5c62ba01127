pub mod Timed
pub mod Runs
pub mod Refused
pub mod Specified
pub mod Scopes
pub mod Overalls
pub mod CostLaws
