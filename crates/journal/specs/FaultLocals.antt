-- The locals of the processors that a fault is of.
use Rattle.std.specs.Prelude.{ℕ, List, Bool, false, if◌then◌else◌, [], ◌∷◌}
use Rattle.std.specs.List.{flat_map}
use Rattle.pram_values.specs.Truth.{is_equal}
use Rattle.pram_values.specs.declared.kind.Kind.{Kind}
use Rattle.pram_values.specs.declared.kind.Kind.TheVariants.{DivideByZero, OutOfRange, Overflow, ReadConflict, TooWide, WriteConflict}
use Rattle.pram_values.specs.declared.place.Place.{Place}
use Rattle.pram_values.specs.declared.place.Place.TheVariants.{All, Cell, Processor}
use Rattle.pram_meaning.specs.declared.key.Key.{Key}
use Rattle.pram_meaning.specs.Conflict.{Part, trail_of}
use Rattle.pram_meaning.specs.Store.{Member, member_of}
use Rattle.journal.specs.Entries.{OwnLocals}
use Rattle.journal.specs.Meeting.{has_read, has_written}

-- whether a processor is among those that met at a cell
abbrev pub meets : Kind → (at c : ℕ) → Part → Bool
meets ReadConflict at c x = has_read at c (trail_of x.attempt)
meets WriteConflict at c x = has_written c x.attempt
meets Overflow at c x = has_written c x.attempt
meets DivideByZero at c x = has_written c x.attempt
meets OutOfRange at c x = has_written c x.attempt
meets TooWide at c x = has_written c x.attempt

-- whether a fault is of a processor: it met others at its cell, or it is the one that faulted
abbrev pub concerns_at : Place → Kind → (at : ℕ) → Part → Bool
concerns_at (Cell c) kind at x = meets kind at c x
concerns_at (Processor i) kind at x = is_equal i x.processor
concerns_at All kind at x = false

abbrev pub concerns : Key → Part → Bool
concerns k x = concerns_at k.place k.kind k.at x

-- what the locals of a processor hold before the statement
abbrev pub own_locals : List Member → Part → OwnLocals
own_locals team x = record { processor = x.processor; values = (member_of team x.member).locals }

abbrev pub locals_if : Key → List Member → Part → List OwnLocals
locals_if k team x = if concerns k x then own_locals team x ∷ [] else []

-- those of the processors that a statement's fault is of, in the order of the set
abbrev pub locals_at : Key → List Part → List Member → List OwnLocals
locals_at k xs team = flat_map (locals_if k team) xs
