-- The processors that meet at the cell of a fault: those that read it at the fault's position, and at another kind than a read conflict
-- those that write it. Positions are compared one by one, as the meaning compares them (its Conflict).
use Rattle.std.specs.Prelude.{ℕ, ◌-◌, List, [], ◌∷◌, Bool, false, if◌then◌else◌, Option, Some, None, ℤ, nat_eq, slice_index_or}
use Rattle.std.specs.List.{flat_map}
use Rattle.pram_values.specs.declared.kind.Kind.{Kind}
use Rattle.pram_values.specs.declared.kind.Kind.TheVariants.{DivideByZero, OutOfRange, Overflow, ReadConflict, TooWide, WriteConflict}
use Rattle.pram_values.specs.declared.place.Place.{Place}
use Rattle.pram_values.specs.declared.place.Place.TheVariants.{All, Cell, Processor}
use Rattle.pram_meaning.specs.declared.key.Key.{Key}
use Rattle.pram_meaning.specs.Attempt.{Attempt, Effect, Fails, Gives, Trail}
use Rattle.pram_meaning.specs.Conflict.{Part, trail_of}

abbrev pub is_cell : ℕ → Option ℕ → Bool
is_cell c None = false
is_cell c (Some d) = nat_eq c d

-- whether the cell is read at this position of a trail, counted from 1
abbrev pub has_read : (at c : ℕ) → Trail → Bool
has_read at c t = is_cell c (slice_index_or t (at - 1) None)

abbrev pub has_written : ℕ → Attempt Effect → Bool
has_written c (Gives t g) = is_cell c g.cell
has_written c (Fails t k) = false

abbrev pub reader : (at c : ℕ) → Part → List ℤ
reader at c x = if has_read at c (trail_of x.attempt) then x.processor ∷ [] else []

abbrev pub writer : ℕ → Part → List ℤ
writer c x = if has_written c x.attempt then x.processor ∷ [] else []

-- the indices of those that read the cell at this position, in the order of the set
abbrev pub readers : (at c : ℕ) → List Part → List ℤ
readers at c = flat_map (reader at c)

-- of those that write it
abbrev pub writers : ℕ → List Part → List ℤ
writers c = flat_map (writer c)

abbrev pub met_at : Kind → (at c : ℕ) → List Part → List ℤ
met_at ReadConflict at c xs = readers at c xs
met_at WriteConflict at c xs = writers c xs
met_at Overflow at c xs = writers c xs
met_at DivideByZero at c xs = writers c xs
met_at OutOfRange at c xs = writers c xs
met_at TooWide at c xs = writers c xs

abbrev pub met_in : Place → Kind → ℕ → List Part → List ℤ
met_in (Cell c) kind at xs = met_at kind at c xs
met_in (Processor i) kind at xs = []
met_in All kind at xs = []

-- those that met at a statement's fault; one that is at no cell is a processor's own
abbrev pub meeting : Key → List Part → List ℤ
meeting k xs = met_in k.place k.kind k.at xs
