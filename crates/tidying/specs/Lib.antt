pub mod Rows
pub mod Certificates
pub mod Tidied
pub mod Shown
