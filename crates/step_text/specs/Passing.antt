-- Entries that pass one after the other: how many were counted, and which are told.
use Rattle.std.specs.Prelude.{ℕ, ◌+◌, Bool, ◌&&◌, if◌then◌else◌, nat_le, nat_lt, List, [], ◌∷◌}
use Rattle.journal.specs.Entries.{Entry}

-- whether the entry behind so many others is one of those from `first` to `last`, counted from 1
abbrev pub is_told : (first last count : ℕ) → Bool
is_told first last count = nat_lt count last && nat_le first (count + 1)

-- how many are counted behind one more; those behind the last that is told are not counted
abbrev pub one_more : (last count : ℕ) → ℕ
one_more last count = if nat_lt count last then count + 1 else count

-- how many are counted behind some more
abbrev pub passed : (last count : ℕ) → List Entry → ℕ
passed last count [] = count
passed last count (e ∷ es) = passed last (one_more last count) es
