-- Entries as they lie in memory.
use Rattle.std.specs.Prelude.{ℕ, zero, suc, List, [], ◌∷◌, Option, Some, None, if◌then◌else◌}
use Rattle.std.proofs.Common.{eqb}
use Rattle.write_rules.specs.declared.entry.Entry.{Entry}
use Rattle.superstep_machine.specs.Words.{CellPut}
use Rattle.combining.specs.declared.compact.Compact.{Compact}
use Rattle.combining.specs.Held.{put_at}

-- in state 2 the writers clash
abbrev pub entry_of : Compact → Entry
entry_of x = record { owner = x.owner; value = x.value; clash = eqb x.state 2 }

-- and in state 0 there is none
abbrev pub entry_if : Compact → Option Entry
entry_if x = if eqb x.state 0 then None else Some (entry_of x)

abbrev pub compact_of : Entry → Compact
compact_of e = record { value = e.value; owner = e.owner; state = if e.clash then 2 else 1 }

-- So many places: the first have these entries, and those behind them none.
abbrev pub places_with : ℕ → List Compact → List (Option Entry)
places_with zero xs = []
places_with (suc n) [] = None ∷ places_with n []
places_with (suc n) (x ∷ xs) = entry_if x ∷ places_with n xs

-- the put of an entry to a cell
abbrev pub held_at : ℕ → Compact → CellPut
held_at c x = put_at c (entry_of x)
