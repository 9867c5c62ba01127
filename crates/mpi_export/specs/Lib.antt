pub mod Program
pub mod Standing
pub mod Parts
pub mod Loops
pub mod Alone
pub mod Prepared
