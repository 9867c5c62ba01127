-- What is so of the processors that meet at a statement's fault: they have accessed its cell there, and two at least have.
use Rattle.std.specs.Prelude.{◌≡◌, ◌≢◌, ◌≤◌, ◌&&◌, ℕ, ℤ, List, [], ◌∷◌, Some, if◌then◌else◌, length, map, nat_eq, true}
use Rattle.std.specs.List.{AllByRecursion, flat_map}
use Rattle.pram_model.specs.declared.rule.Rule.{Rule}
use Rattle.pram_values.specs.declared.kind.Kind.TheVariants.{ReadConflict}
use Rattle.pram_values.specs.declared.place.Place.TheVariants.{Cell}
use Rattle.pram_values.specs.Value.{fits}
use Rattle.pram_meaning.specs.declared.key.Key.{Key}
use Rattle.pram_meaning.specs.declared.read.Read.{Read}
use Rattle.pram_meaning.specs.Conflict.{Part, keys, least, reads_of, writes_to}
use Rattle.pram_meaning.specs.Store.{Member}
use Rattle.journal.specs.FaultLocals.{locals_at}
use Rattle.journal.specs.Meeting.{meeting}

-- the fault of a statement with these parts is this one, at this cell
pub record FaultsAt (rule : Rule) (xs : List Part) (k : Key) (c : ℕ) : Type 0 where
  pub told : least (keys rule xs) ≡ Some k
  pub cell : k.place ≡ Cell c

-- the reader, if the read is of this cell at this position
abbrev pub reader_at : (at c : ℕ) → Read → List ℤ
reader_at at c r = if nat_eq at r.at && nat_eq c r.cell then r.processor ∷ [] else []

-- At a read conflict those met, and no others, that read the cell at the fault's position.
abbrev pub ReadersMeet : Type 0
ReadersMeet =
    (rule : Rule) (xs : List Part) (k : Key) (c : ℕ) → FaultsAt rule xs k c → k.kind ≡ ReadConflict →
    meeting k xs ≡ flat_map (reader_at k.at c) (reads_of xs)

-- At every other fault of a cell those met, and no others, that write it.
abbrev pub WritersMeet : Type 0
WritersMeet =
    (rule : Rule) (xs : List Part) (k : Key) (c : ℕ) → FaultsAt rule xs k c → k.kind ≢ ReadConflict →
    meeting k xs ≡ map (λ w. w.processor) (writes_to c xs)

-- Where what is written has 64 bits, at least two meet.
abbrev pub TwoMeet : Type 0
TwoMeet =
    (rule : Rule) (xs : List Part) (k : Key) (c : ℕ) → FaultsAt rule xs k c →
    AllByRecursion (λ w. fits w.value ≡ true) (writes_to c xs) → 2 ≤ length (meeting k xs)

-- The locals that are told of a fault at a cell are those of the processors that met there, in their order.
abbrev pub LocalsAreOfThose : Type 0
LocalsAreOfThose =
    (xs : List Part) (k : Key) (c : ℕ) (team : List Member) → k.place ≡ Cell c →
    map (λ l. l.processor) (locals_at k xs team) ≡ meeting k xs
