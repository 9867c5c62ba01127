pub mod PairParts
pub mod Fitting
pub mod PairInputs
pub mod GradeRows
