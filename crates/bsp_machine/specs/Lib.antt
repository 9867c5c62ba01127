pub mod Sheets
pub mod ColumnLaws
pub mod Reserves
pub mod Workers
pub mod Opening
pub mod Ended
pub mod Growing
