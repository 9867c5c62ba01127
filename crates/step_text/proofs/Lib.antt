pub mod Naming
pub mod StepLines
pub mod OwnTexts
pub mod Lines
pub mod Parts
