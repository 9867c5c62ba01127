-- What a picture takes of the entries of a run, as they come.
use Rattle.std.specs.Prelude.{◌≡◌, ◌<◌, ◌+◌, ℕ, Bool, ◌&&◌, ◌||◌, if◌then◌else◌, nat_lt, List, [], ◌∷◌, ◌++◌, ℤ, map, length, take}
use Rattle.journal.specs.Entries.{Entry}
use Rattle.pictures.specs.declared.flows.flow.Flow.{Flow}
use Rattle.pictures.specs.Flows.Choice.{faulted, is_fault, is_touching, number_before, ran, touching}
use Rattle.pictures.specs.Flows.Drawing.{Column, column_is, column_of}
use Rattle.pictures.specs.Flows.Values.{value_at, value_behind, value_of}

-- These entries have come: they are counted; the values are those behind the last of them and, where one touched shared memory, those
-- before the first one that did; of those that touched it the first 64 are kept, and all that faulted.
pub record HasTaken (aside : Entry → List Bool) (opening : List ℤ) (from to : ℕ) (es : List Entry) (f : Flow) : Type 0 where
  pub first : f.from ≡ from
  pub last : f.to ≡ to
  pub counted : f.count ≡ length es
  pub touched : f.touching ≡ length (touching from to es)
  pub behind : (cell : ℕ) → value_at f.cells.items cell ≡ value_of opening es cell
  pub before : 0 < f.touching → (cell : ℕ) →
      value_at f.before.items cell ≡ value_behind opening es (number_before (touching from to es)) cell
  pub kept : map column_is f.ran.items ≡ take 64 (map (column_of aside opening es) (ran from to es))
  pub failed : map column_is f.faulted.items ≡ map (column_of aside opening es) (faulted from to es)

-- ---- one more

-- whether the next one is kept, if it is this one
abbrev pub is_kept : Flow → Entry → Bool
is_kept f e = is_touching f.from f.to (f.count + 1, e) && (is_fault e || nat_lt (length f.ran.items) 64)

-- those that ran, and those that faulted, with one that is of either
abbrev pub with_ran : List Column → Column → List Column
with_ran cs c = if is_fault c.entry then cs else (if nat_lt (length cs) 64 then cs ++ c ∷ [] else cs)

abbrev pub with_faulted : List Column → Column → List Column
with_faulted cs c = if is_fault c.entry then cs ++ c ∷ [] else cs
