pub mod ExpressionForms
pub mod Joined
pub mod StatementForms
