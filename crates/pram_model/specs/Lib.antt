pub mod Names
pub mod Rules
pub mod Layout
pub mod LayoutFields
pub mod Declarations
