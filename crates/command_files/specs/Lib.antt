pub mod Arranged
pub mod Left
pub mod Witness
pub mod WitnessLeft
