-- Tables as systems of equations, and systems in echelon form.
use Rattle.std.specs.Prelude.{◌≡◌, ◌≢◌, ℕ, ◌<◌, List, [], All, pos, slice_index_or}
use Rattle.sweeps.specs.declared.equation.Equation.{Equation}
use Rattle.sweeps.specs.declared.row.Row.{Row}
use Rattle.sweeps.specs.Choices.{chosen}
use Rattle.sweeps.specs.Equations.{IsBounded, Vector, dot, entry, row_entry}
use Rattle.sweeps.specs.Formulas.{IsLogFor}

-- numbers for the coefficients solve the equation of a row
pub record Solves (z : Vector) (row : Row) : Type 0 where
  pub log : ℕ
  pub is_log : IsLogFor (z 1) (z 3) row.size log
  pub is : dot 7 (row_entry row.size log row.number) z ≡ pos 0

-- the same, where the row has a logarithm or none is asked for
abbrev pub MaySolve : Vector → Row → Type 0
MaySolve z row = (log : ℕ) → IsLogFor (z 1) (z 3) row.size log → dot 7 (row_entry row.size log row.number) z ≡ pos 0

abbrev pub no_entries : Equation
no_entries = record { entries = [] }

-- the equation of a column
abbrev pub pivot : List Equation → ℕ → Equation
pivot ps j = slice_index_or ps j no_entries

-- numbers solve the first k equations
abbrev pub SolveFirst : List Equation → ℕ → Vector → Type 0
SolveFirst ps k z = (j : ℕ) → j < k → dot 7 (entry (pivot ps j)) z ≡ pos 0

-- the equation of column j begins there
pub record BeginsAt (j : ℕ) (e : Equation) : Type 0 where
  pub bounded : IsBounded j e
  pub some : entry e j ≢ pos 0
  pub zeros : (i : ℕ) → i < j → entry e i ≡ pos 0

-- each of the first k equations begins at its column
abbrev pub IsEchelon : List Equation → ℕ → Type 0
IsEchelon ps k = (j : ℕ) → j < k → BeginsAt j (pivot ps j)

-- numbers for the coefficients of the terms chosen alone
abbrev pub IsOfChoice : ℕ → Vector → Type 0
IsOfChoice set z = (j : ℕ) → j < 6 → chosen set j ≡ 0 → z j ≡ pos 0

-- the columns chosen depend on one another: some numbers, not all of them 0, make a sum of 0 at each row
pub record IsDependent (table : List Row) (set : ℕ) : Type 0 where
  pub numbers : Vector
  pub column : ℕ
  pub within : column < 6
  pub some : numbers column ≢ pos 0
  pub of_choice : IsOfChoice set numbers
  pub last : numbers 6 ≡ pos 0
  pub rows : All (MaySolve numbers) table
