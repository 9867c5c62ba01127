pub mod ExprTokens
pub mod StmtTokens
