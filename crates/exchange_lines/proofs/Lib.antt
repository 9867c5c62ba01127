pub mod Workers
pub mod LineLists
pub mod Listed
