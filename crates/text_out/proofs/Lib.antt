pub mod Writing
pub mod Progress
pub mod Printed
pub mod Items
