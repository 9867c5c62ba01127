pub mod RegisterLemmas
pub mod ComputedLemmas
pub mod ReserveLemmas
