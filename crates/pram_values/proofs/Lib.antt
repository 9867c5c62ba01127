pub mod Checked
pub mod PlaceOrder
pub mod Divisions
pub mod Totals
pub mod TruthValues
