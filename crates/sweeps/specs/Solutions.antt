-- Formulas as solutions.
use Rattle.std.specs.Prelude.{ℕ, ℤ, ◌==◌, if◌then◌else◌, FitsSigned}
use Rattle.std.specs.Int.{w128}
use Rattle.sweeps.specs.declared.formula.Formula.{Formula}
use Rattle.sweeps.specs.declared.term.Term.{Term}
use Rattle.sweeps.specs.Equations.{Vector, vector}
use Rattle.sweeps.specs.Formulas.{coefficient}

-- the coefficients have 128 bits
abbrev pub HasSmall : Formula → Type 0
HasSmall f = (term : Term) → FitsSigned w128 (coefficient f term)

-- the numbers of a formula with another one in a column
abbrev pub column_at : Formula → (column : ℕ) → ℤ → Vector
column_at f column x i = if i == column then x else vector f i
