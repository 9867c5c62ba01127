pub mod Columns
pub mod CountedExchanges
pub mod CountsFields
pub mod Tallies
