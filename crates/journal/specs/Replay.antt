-- What cells and uniform variables hold behind statements, and how many numbers were printed up to there, by what is told of these.
use Rattle.std.specs.Prelude.{ℕ, zero, suc, ◌+◌, ℤ, List, [], ◌∷◌, length, pos}
use Rattle.std.specs.List.{fold}
use Rattle.journal.specs.declared.change.Change.{Change}
use Rattle.journal.specs.Entries.{Entry, Faulting, Ran}

-- a value at a number of a list, behind which all are 0
abbrev pub with_value : List ℤ → ℕ → ℤ → List ℤ
with_value [] zero v = v ∷ []
with_value [] (suc at) v = pos 0 ∷ with_value [] at v
with_value (x ∷ xs) zero v = v ∷ xs
with_value (x ∷ xs) (suc at) v = x ∷ with_value xs at v

abbrev pub with_change : List ℤ → Change → List ℤ
with_change xs d = with_value xs d.cell d.after

-- the cells behind a statement, by those before it, and the uniform variables
abbrev pub with_cells : List ℤ → Entry → List ℤ
with_cells xs (Ran here acts cells variables locals printed) = fold with_change xs cells
with_cells xs (Faulting here fault cause acts met locals) = xs

abbrev pub with_variables : List ℤ → Entry → List ℤ
with_variables xs (Ran here acts cells variables locals printed) = fold with_change xs variables
with_variables xs (Faulting here fault cause acts met locals) = xs

-- how many numbers were printed up to there
abbrev pub with_printed : ℕ → Entry → ℕ
with_printed n (Ran here acts cells variables locals printed) = n + length printed
with_printed n (Faulting here fault cause acts met locals) = n
