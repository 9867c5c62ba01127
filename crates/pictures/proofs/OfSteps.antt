pub mod RowTexts
pub mod MarkTexts
pub mod ColumnTexts
pub mod Contained
pub mod Standings
pub mod Ordered
pub mod Whole
pub mod KeptEntries
