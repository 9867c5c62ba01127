pub mod Sent
pub mod Accesses
pub mod Laws
