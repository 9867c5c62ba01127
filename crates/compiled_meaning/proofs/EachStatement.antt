-- One statement: from its mark through the stretch behind it.
pub mod Begins
pub mod Words
pub mod Costs
pub mod Marked
pub mod Places
pub mod Joined
pub mod Valued
