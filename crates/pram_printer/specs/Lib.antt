pub mod Spelling
pub mod Places
