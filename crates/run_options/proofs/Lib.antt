pub mod Digits
pub mod Powers
pub mod Named
pub mod Printed
