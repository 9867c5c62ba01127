pub mod Views
pub mod RunViews
pub mod Exchanged
pub mod Lined
