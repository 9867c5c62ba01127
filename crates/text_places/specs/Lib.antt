pub mod Escaped
pub mod Places
pub mod Excerpts
