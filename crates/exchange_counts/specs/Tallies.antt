-- What a worker's tally says.
use Rattle.std.specs.Prelude.{ℕ, ◌-◌, ◌^◌, Bool, true, false, List, [], length, vec_capacity}
use Rattle.exchange_counts.specs.declared.count.Count.{Count}
use Rattle.exchange_counts.specs.declared.tally.Tally.{Tally}
use Rattle.exchange_counts.specs.declared.tally.Tally.TheVariants.{Rows, Number}

-- each exchange has a row
abbrev pub is_kept : Tally → Bool
is_kept (Rows rows) = true
is_kept (Number made) = false

-- what was counted at each
abbrev pub rows_of : Tally → List Count
rows_of (Rows rows) = rows.items
rows_of (Number made) = []

-- how many exchanges were made
abbrev pub made_of : Tally → ℕ
made_of (Rows rows) = length rows.items
made_of (Number made) = made

-- how many there is room to count
abbrev pub room_of : Tally → ℕ
room_of (Rows rows) = vec_capacity rows
room_of (Number made) = 2 ^ 64 - 1
