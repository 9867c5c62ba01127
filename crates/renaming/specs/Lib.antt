pub mod Renamed
pub mod Named
pub mod Numbers
pub mod Packed
