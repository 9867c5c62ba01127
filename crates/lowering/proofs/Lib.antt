pub mod Filling
pub mod StepParts
pub mod StatementParts
pub mod Rooms
pub mod Lengths
pub mod StepsShort
pub mod StatementsShort
