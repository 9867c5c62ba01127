pub mod CauseLemmas
pub mod LastReason
pub mod Remarked
pub mod Nearest
pub mod Guessed
pub mod Judged
pub mod Fitted
