pub mod Checked
pub mod OtherRule
pub mod Program
pub mod Faults
pub mod Bounded
