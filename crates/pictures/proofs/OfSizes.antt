pub mod LabelTexts
pub mod Logs
pub mod Lows
pub mod Rounds
pub mod Standing
pub mod TickTexts
