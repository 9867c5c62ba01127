pub mod Tokens
pub mod Lexemes
pub mod Scanning
pub mod Plain
pub mod InOrder
pub mod Input
