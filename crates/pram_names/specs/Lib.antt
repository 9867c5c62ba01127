pub mod Scope
pub mod ScopeFields
pub mod Breaches
pub mod Resolved
pub mod Walk
