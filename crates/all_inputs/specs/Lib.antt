pub mod Faulting
pub mod Lines
pub mod Overall
pub mod OverallText
pub mod ReasonText
pub mod Told
