pub mod Distinct
pub mod Drawing
pub mod Edged
pub mod Placing
pub mod Pushed
pub mod Rooted
pub mod Shuffles
pub mod Worded
