pub mod Pieces
pub mod Roles
pub mod Layout
pub mod Spelled
pub mod Trees
pub mod Arranged
