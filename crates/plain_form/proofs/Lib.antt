pub mod KeptReads
pub mod Lengths
pub mod StepLengths
pub mod StatementLengths
pub mod TextWords
