pub mod Flat
pub mod ByExchanges
pub mod ByInstructions
pub mod Exchanges
pub mod Flatness
pub mod OneList
pub mod OneControl
pub mod Verdicts
