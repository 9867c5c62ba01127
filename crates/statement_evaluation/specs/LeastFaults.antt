-- The least fault of a statement, as the meaning has it, is the least key that is noted.
use Rattle.std.specs.Prelude.{◌≡◌, ℕ, List, Bool, true, false, Option, Some, None, Result, Ok, Err}
use Rattle.std.specs.List.{Contains}
use Rattle.pram_values.specs.declared.place.Place.{Place}
use Rattle.pram_values.specs.declared.place.Place.TheVariants.{All, Processor, Cell}
use Rattle.write_rules.specs.declared.fault.Fault.{Fault}
use Rattle.superstep_machine.specs.declared.key as machine
use Rattle.superstep_machine.specs.Keys as order
use Rattle.superstep_machine.specs.Run.{fault_of}
use Rattle.pram_check.specs.Checked.{Checked}
use Rattle.pram_meaning.specs.declared.key.Key.{Key}
use Rattle.pram_meaning.specs.Store.{State}
use Rattle.pram_meaning.specs.Conflict.{keys, lesser, least}
use Rattle.pram_meaning.specs.Together.{alone, together}
use Rattle.statement_evaluation.specs.Terms.{Task}
use Rattle.statement_evaluation.specs.Whole.{Whole, cut}
use Rattle.statement_evaluation.specs.Rows.{rows, cut_parts, AreApart}
use Rattle.statement_evaluation.specs.Noted.{Heading, notes_behind, noted}

abbrev pub is_cell : Place → Bool
is_cell All = false
is_cell (Processor i) = false
is_cell (Cell c) = true

-- a fault of the meaning as a key of the machine: the conflicts are those at a cell
abbrev pub key_of : Heading → Key → machine.Key.Key
key_of h k = record { count = h.count; position = k.at; conflict = is_cell k.place; place = k.place; kind = k.kind; line = h.line }

abbrev pub told : Heading → Option Key → Option machine.Key.Key
told h None = None
told h (Some k) = Some (key_of h k)

-- a key ends a statement with its fault
abbrev pub unless_told : {A : Type 0} → Option machine.Key.Key → A → Result A Fault
unless_told None a = Ok a
unless_told (Some k) a = Err (fault_of k)

-- two faults that differ in more than their kind are told in one order
abbrev pub AreToldInOneOrder : Type 0
AreToldInOneOrder =
    (h : Heading) (k j : Key) → (k.at ≡ j.at → k.place ≡ j.place → k.kind ≡ j.kind) →
    told h (lesser (Some k) j) ≡ order.least (told h (Some k)) (told h (Some j))

-- no two faults of a statement differ in their kind alone
abbrev pub NoneDifferInKindAlone : Type 0
NoneDifferInKindAlone =
    (p : Checked) (m : State) (task : Task) (vs : List ℕ) → AreApart (rows p m task vs) → (k j : Key) →
    Contains (keys p.rule (cut_parts p m task vs)) k → Contains (keys p.rule (cut_parts p m task vs)) j →
    k.at ≡ j.at → k.place ≡ j.place → k.kind ≡ j.kind

-- on a set of processors
abbrev pub LeastFaultIsNoted : Type 0
LeastFaultIsNoted =
    (h : Heading) (p : Checked) (m : State) (task : Task) (vs : List ℕ) → AreApart (rows p m task vs) →
    told h (least (keys p.rule (cut_parts p m task vs))) ≡ noted h p.rule p.layout task (rows p m task vs)

-- so the statement's parts come out, or the fault of that key
abbrev pub TogetherIsNoted : Type 0
TogetherIsNoted =
    (h : Heading) (p : Checked) (m : State) (task : Task) (vs : List ℕ) → AreApart (rows p m task vs) →
    together p h.line (cut_parts p m task vs) ≡ unless_told (noted h p.rule p.layout task (rows p m task vs)) (cut_parts p m task vs)

-- outside pardo the value comes out, or the fault of the first note
abbrev pub AloneIsNoted : Type 0 → Type 0
AloneIsNoted A = (h : Heading) (w : Whole A) → alone h.line (cut w) ≡ unless_told (notes_behind h 0 All w.steps) w.value
