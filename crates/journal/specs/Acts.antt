-- What a processor does in a statement: the shared cells that it reads and writes, with positions and values, or at a fault has read up to
-- there.
use Rattle.std.specs.Prelude.{ℕ, ◌+◌, ◌-◌, List, [], ◌∷◌, ◌++◌, Option, Some, None, ℤ, pos, slice_index_or, take}
use Rattle.std.specs.List.{flat_map}
use Rattle.pram_meaning.specs.Attempt.{Attempt, Gives, Fails, Trail, Effect}
use Rattle.pram_meaning.specs.Conflict.{Part, trail_of}
use Rattle.journal.specs.declared.reading.Reading.{Reading}
use Rattle.journal.specs.Entries.{Act}

-- the cell of an access, if it is one
abbrev pub reads_at : Option ℕ → List ℕ
reads_at None = []
reads_at (Some c) = c ∷ []

-- the cells that are read along a trail, in order
abbrev pub reads_in : Trail → List ℕ
reads_in = flat_map reads_at

-- what a cell holds
abbrev pub holds : List ℤ → (cell : ℕ) → ℤ
holds cells c = slice_index_or cells c (pos 0)

-- the same, where there is a cell
abbrev pub held : List ℤ → Option ℕ → Option ℤ
held cells None = None
held cells (Some c) = Some (holds cells c)

-- an access at this position, if it is a read, with what its cell holds
abbrev pub reading_at : List ℤ → (at : ℕ) → Option ℕ → List Reading
reading_at cells at None = []
reading_at cells at (Some c) = record { position = at; value = holds cells c } ∷ []

-- those along a trail whose first position is this one
abbrev pub readings_from : List ℤ → (at : ℕ) → Trail → List Reading
readings_from cells at [] = []
readings_from cells at (a ∷ t) = reading_at cells at a ++ readings_from cells (at + 1) t

-- a trail's front: what comes before a position, counted from 1
abbrev pub front : ℕ → Trail → Trail
front at t = take (at - 1) t

-- what a processor does that reads along this trail, in these cells, and writes this
abbrev pub act_along : Option ℤ → List ℤ → Trail → (write : Option ℕ) → (written : Option ℤ) → Act
act_along who cells t write written =
    record { processor = who; reads = reads_in t; write = write; readings = readings_from cells 1 t; written = written }

-- what nobody else does: the one processor outside pardo has no index
abbrev pub alone_acts : List ℤ → Trail → (write : Option ℕ) → (written : Option ℤ) → List Act
alone_acts cells t write written = act_along None cells t write written ∷ []

-- the cell that an attempt writes; one that fails writes none
abbrev pub write_of : Attempt Effect → Option ℕ
write_of (Gives t g) = g.cell
write_of (Fails t k) = None

-- and what it writes there
abbrev pub value_if : Option ℕ → ℤ → Option ℤ
value_if None v = None
value_if (Some c) v = Some v

abbrev pub written_of : Attempt Effect → Option ℤ
written_of (Gives t g) = value_if g.cell g.value
written_of (Fails t k) = None

-- what a processor of a set does, before which the cells hold this
abbrev pub act_of : List ℤ → Part → Act
act_of cells x = act_along (Some x.processor) cells (trail_of x.attempt) (write_of x.attempt) (written_of x.attempt)

-- what it has done where the statement faults at this position: the reads before it, and no write
abbrev pub act_before : List ℤ → (at : ℕ) → Part → Act
act_before cells at x = act_along (Some x.processor) cells (front at (trail_of x.attempt)) None None
