pub mod Permutation
pub mod Lawful
pub mod Outcome
pub mod SpreadLaws
pub mod AffineLaws
pub mod ShiftLaws
pub mod RoundLaws
