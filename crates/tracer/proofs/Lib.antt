pub mod TraceLemmas
pub mod BarTexts
pub mod ColumnTexts
pub mod CostSums
pub mod Standing
