pub mod Scanned
pub mod Laid
pub mod Kept
pub mod Trees
