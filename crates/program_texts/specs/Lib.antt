pub mod Numbers
pub mod Report
pub mod Shown
pub mod Status
pub mod Stopped
pub mod StoppedFields
