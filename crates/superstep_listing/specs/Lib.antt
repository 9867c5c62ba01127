pub mod Listing
pub mod Text
pub mod Reading
pub mod Decoding
pub mod Names
pub mod Cutting
