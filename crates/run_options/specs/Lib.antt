pub mod Numbers
pub mod Maps
pub mod Places
