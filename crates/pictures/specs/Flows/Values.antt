-- The values of cells behind some statements.
use Rattle.std.specs.Prelude.{ℕ, nat_eq, if◌then◌else◌, List, ℤ, pos, slice_index_or, take}
use Rattle.std.specs.List.{fold}
use Rattle.journal.specs.declared.change.Change.{Change}
use Rattle.journal.specs.Entries.{Entry}
use Rattle.pictures.specs.Flows.Choice.{changes_in}

abbrev pub changed : (cell : ℕ) → ℤ → Change → ℤ
changed cell v d = if nat_eq d.cell cell then d.after else v

-- behind one statement
abbrev pub value_after : (cell : ℕ) → ℤ → Entry → ℤ
value_after cell v e = fold (changed cell) v (changes_in e)

-- the first cells have these values, and the others 0
abbrev pub value_at : List ℤ → (cell : ℕ) → ℤ
value_at values cell = slice_index_or values cell (pos 0)

-- behind all of these statements, by the values before the first one
abbrev pub value_of : List ℤ → List Entry → (cell : ℕ) → ℤ
value_of opening es cell = fold (value_after cell) (value_at opening cell) es

-- behind the first k of them
abbrev pub value_behind : List ℤ → List Entry → (k cell : ℕ) → ℤ
value_behind opening es k = value_of opening (take k es)
