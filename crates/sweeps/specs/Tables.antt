-- What is told of a table of sizes and numbers.
use Rattle.std.specs.Prelude.{◌≡◌, ◌==◌, ◌+◌, ◌*◌, ◌≤◌, ◌<◌, ◌⊎◌, FitsSigned, if◌then◌else◌, Bool}
use Rattle.std.specs.Prelude.{ℕ, ℤ, pos, ◌+ℤ◌, List, [], ◌∷◌, length, All, ⊤}
use Rattle.std.specs.Int.{w128}
use Rattle.std.specs.List.{AllAdjacentBelow, list_any}
use Rattle.sweeps.specs.declared.row.Row.{Row}
use Rattle.sweeps.specs.declared.formula.Formula.{Formula}
use Rattle.sweeps.specs.declared.growth.Growth.{Growth}
use Rattle.sweeps.specs.declared.term.Term.{Term}
use Rattle.sweeps.specs.declared.growth.Growth.TheVariants.{Formula as ByFormula, Doubling, Nothing}
use Rattle.sweeps.specs.Formulas.{IsValue, coefficient, counted, term_count}

-- at each size the formula gives the number
abbrev pub Fits : Formula → List Row → Type 0
Fits f table = All (λ (row : Row). IsValue f row.size (pos row.number)) table

-- whether a row has this size
abbrev pub has_size : ℕ → List Row → Bool
has_size size table = list_any (λ row. row.size == size) table

-- how many different sizes there are: one for each row behind which none has its size
abbrev pub size_count : List Row → ℕ
size_count [] = 0
size_count (row ∷ table) = if has_size row.size table then size_count table else size_count table + 1

-- the formula fits, and there are at least two more different sizes than terms
pub record Explains (f : Formula) (table : List Row) : Type 0 where
  pub fits : Fits f table
  pub enough : term_count f + 2 ≤ size_count table

-- each term that g has f has
abbrev pub HasTermsOf : (f g : Formula) → Type 0
HasTermsOf f g = (term : Term) → coefficient f term ≡ pos 0 → coefficient g term ≡ pos 0

-- the table determines f: of the formulas with integer coefficients and with no other terms it is the only one that fits
abbrev pub IsDetermined : Formula → List Row → Type 0
IsDetermined f table = (g : Formula) → HasTermsOf f g → Fits g table → g ≡ f

-- a formula that may be told: it has coefficients of 128 bits, it explains the table, and the table determines it
pub record IsCandidate (f : Formula) (table : List Row) : Type 0 where
  pub small : (term : Term) → FitsSigned w128 (coefficient f term)
  pub explains : Explains f table
  pub determined : IsDetermined f table

-- the terms of a formula as a number: 1 stands for the constant, 2 for log n, 4 for n, 8 for n log n, 16 for n^2 and 32 for n^3
abbrev pub term_set : Formula → ℕ
term_set f =
    counted f.constant + 2 * counted f.logarithm + 4 * counted f.linear + 8 * counted f.linearithmic + 16 * counted f.square
    + 32 * counted f.cube

-- f has fewer terms than g, or as many that are no later: the fastest term that only one of them has is g's
abbrev pub IsNotAfter : (f g : Formula) → Type 0
IsNotAfter f g = (term_count f < term_count g) ⊎ ((term_count f ≡ term_count g) × (term_set f ≤ term_set g))

-- f is the first formula that may be told
pub record IsFirst (f : Formula) (table : List Row) : Type 0 where
  pub candidate : IsCandidate f table
  pub first : (g : Formula) → IsCandidate g table → IsNotAfter f g

-- no formula may be told
abbrev pub HasNoFormula : List Row → Type 0
HasNoFormula table = (f : Formula) → ¬ IsCandidate f table

-- the first formula that may be told is told, and only where there is none something else
abbrev pub TellsFirst : Growth → List Row → Type 0
TellsFirst (ByFormula f) table = IsFirst f table
TellsFirst (Doubling step) table = HasNoFormula table
TellsFirst Nothing table = HasNoFormula table

-- b has twice the size of a, which is not 0, and a number that is greater by the step
pub record Doubles (step : ℤ) (a b : Row) : Type 0 where
  pub some : 0 < a.size
  pub size : b.size ≡ a.size * 2
  pub number : pos b.number ≡ pos a.number +ℤ step

-- there are three rows or more, and each doubles the one before
pub record GrowsBy (step : ℤ) (table : List Row) : Type 0 where
  pub rows : AllAdjacentBelow (Doubles step) table (length table)
  pub enough : 3 ≤ length table

-- what is told is so
abbrev pub IsSo : Growth → List Row → Type 0
IsSo (ByFormula f) table = Explains f table
IsSo (Doubling step) table = GrowsBy step table
IsSo Nothing table = ⊤
