pub mod Histories
pub mod Shares
pub mod Growing
pub mod Joined
pub mod InWords
pub mod Marked
