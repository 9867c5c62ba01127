-- Kinds of operators (this project's own profile).
use Rattle.pram_tokens.specs.declared.token.Binary.{Binary}
use Rattle.pram_tokens.specs.declared.token.Binary.TheVariants.{Or, And, Add, Subtract, Multiply, Divide, Remainder}

-- an operator that is no comparison
abbrev pub IsNoComparison : Binary → Type 0
IsNoComparison Or = Unit {0}
IsNoComparison And = Unit {0}
IsNoComparison Add = Unit {0}
IsNoComparison Subtract = Unit {0}
IsNoComparison Multiply = Unit {0}
IsNoComparison Divide = Unit {0}
IsNoComparison Remainder = Unit {0}
IsNoComparison operator = ⊥
