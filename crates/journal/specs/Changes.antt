-- The difference of two lists of values, of cells or of uniform variables.
use Rattle.std.specs.Prelude.{ℕ, ◌+◌, List, [], ◌∷◌, ◌++◌, ℤ, if◌then◌else◌}
use Rattle.pram_values.specs.Truth.{is_equal}
use Rattle.journal.specs.declared.change.Change.{Change}

-- that of one of them
abbrev pub change_at : ℕ → ℤ → ℤ → List Change
change_at c x y = if is_equal x y then [] else record { cell = c; before = x; after = y } ∷ []

-- those, numbered from c on, whose value differs, in ascending order
abbrev pub difference_from : ℕ → List ℤ → List ℤ → List Change
difference_from c [] new = []
difference_from c (x ∷ old) [] = []
difference_from c (x ∷ old) (y ∷ new) = change_at c x y ++ difference_from (c + 1) old new

abbrev pub difference : List ℤ → List ℤ → List Change
difference = difference_from 0
