pub mod Piece
pub mod Block
pub mod Ownership
pub mod Run
