-- A run told statement by statement: entry k is the k-th statement that ran, counted from 1.
use Rattle.std.specs.Prelude.{◌≡◌, ℕ, List, [], ◌∷◌, ◌++◌, Option, Some, None, ℤ, pos, drop, length, map, slice_index_or, take, ⊤}
use Rattle.std.specs.List.{AllByRecursion, flat_map, fold}
use Rattle.pram_check.specs.Checked.{Checked}
use Rattle.pram_values.specs.declared.kind.Kind.{Kind}
use Rattle.pram_values.specs.declared.place.Place.TheVariants.{All}
use Rattle.write_rules.specs.declared.fault.Fault.{Fault}
use Rattle.write_rules.specs.Verdict.{Verdict, Ended, Faulted, GoesOn}
use Rattle.pram_meaning.specs.declared.key.Key.{Key}
use Rattle.pram_meaning.specs.Attempt.{Attempt, Gives, Fails}
use Rattle.pram_meaning.specs.Conflict.{Part}
use Rattle.pram_meaning.specs.Moments.{Action, StepAction, Moment, Alone, Together, Closed, run_moments}
use Rattle.pram_meaning.specs.Outcome.{IsOutcome, opening}
use Rattle.pram_meaning.specs.Store.{State, seen}
use Rattle.moment_laws.specs.Following.{state_behind}
use Rattle.pram_tokens.specs.declared.token.Location.{Location}
use Rattle.journal.specs.Causes.{Cause}
use Rattle.journal.specs.declared.local_change.LocalChange.{LocalChange}
use Rattle.journal.specs.Entries.{Act, Entry, OwnLocals, Ran, Faulting}
use Rattle.journal.specs.Replay.{with_cells, with_printed, with_variables}
use Rattle.journal.specs.FoundCauses.{cause_alone, cause_on}
use Rattle.journal.specs.Faults.{IsExplained}
use Rattle.journal.specs.Acts.{act_before, act_of, alone_acts, front, held}
use Rattle.journal.specs.Changes.{difference}
use Rattle.journal.specs.FaultLocals.{locals_at}
use Rattle.journal.specs.Locals.{locals_changed}
use Rattle.journal.specs.Meeting.{meeting}

-- the entry of a statement that ran between these two: what differs, and what the output has gained
abbrev pub ran : Location → List Act → List LocalChange → (before behind : State) → Entry
ran here acts locals before behind =
    Ran here acts (difference before.cells behind.cells) (difference before.uniforms behind.uniforms) locals
    (drop (length before.output) behind.output)

-- the fault of the one processor outside pardo on this line
abbrev pub fault_alone : ℕ → Kind → Fault
fault_alone line kind = record { kind = kind; line = line; place = All }

-- a fault of a set's statement on this line
abbrev pub fault_on : ℕ → Key → Fault
fault_on line k = record { kind = k.kind; line = line; place = k.place }

-- why a statement outside pardo faults
abbrev pub why_alone : Checked → State → Action → Option Cause
why_alone p before act = cause_alone p.procs (seen p before) act

-- what is told of the one processor outside pardo, whose attempt this is
abbrev pub by_one : Checked → Location → Action → State → Attempt (Option ℕ) → State → Entry
by_one p here act before (Gives t c) behind = ran here (alone_acts before.cells t c (held behind.cells c)) [] before behind
by_one p here act before (Fails t kind) behind =
    Faulting here (fault_alone here.line kind) (why_alone p before act)
    (alone_acts before.cells (front (length t) t) None None) [] []

-- what is told of a set, whose statement has this least fault, or none
abbrev pub by_set : Checked → Location → StepAction → State → List Part → Option Key → State → Entry
by_set p here act before xs None behind = ran here (map (act_of before.cells) xs) (locals_changed act xs before.team) before behind
by_set p here act before xs (Some k) behind =
    Faulting here (fault_on here.line k) (cause_on p before act k xs) (map (act_before before.cells k.at) xs) (meeting k xs)
    (locals_at k xs before.team)

-- what is told of a moment of a program's run: a statement's difference of the state behind it from the one before it, or its fault and why
-- it came
abbrev pub entries_of : Checked → Moment → List Entry
entries_of p (Alone here act before a behind) = by_one p here act before a behind ∷ []
entries_of p (Together here act before xs k behind) = by_set p here act before xs k behind ∷ []
entries_of p Closed = []

-- what is told of a program's run on an input, of at most n statements
abbrev pub run_entries : Checked → List ℤ → ℕ → List Entry
run_entries p input n = flat_map (entries_of p) (run_moments p input n)

-- ---- the changes of cells, applied in order

-- the memory of an outcome that has one
abbrev pub HasMemory : Verdict → List ℤ → Type 0
HasMemory (Ended output memory) cells = cells ≡ memory
HasMemory (Faulted fault output) cells = ⊤
HasMemory (GoesOn output) cells = ⊤

-- The changes that are told of a run, applied in order to its opening memory, give the memory of its outcome.
abbrev pub ChangesGiveTheMemory : Type 0
ChangesGiveTheMemory =
    (p : Checked) (input : List ℤ) (n : ℕ) (v : Verdict) → IsOutcome p input n v →
    HasMemory v (fold with_cells (opening p input).cells (run_entries p input n))

-- ---- the state behind each statement

-- what the one list holds, behind which all are 0, the other one does
abbrev pub HasSameValues : List ℤ → List ℤ → Type 0
HasSameValues xs ys = (c : ℕ) → slice_index_or xs c (pos 0) ≡ slice_index_or ys c (pos 0)

-- cells, uniform variables and a number of printed items that are those of a state
pub record IsStore (memory held : List ℤ) (items : ℕ) (m : State) : Type 0 where
  pub cells : HasSameValues memory m.cells
  pub variables : HasSameValues held m.uniforms
  pub printed : items ≡ length m.output

-- The changes and the items of the first k entries, applied in order to the input, give the state of the run behind its first k statements.
abbrev pub ChangesGiveEachState : Type 0
ChangesGiveEachState =
    (p : Checked) (input : List ℤ) (n k : ℕ) →
    IsStore (fold with_cells input (take k (run_entries p input n))) (fold with_variables [] (take k (run_entries p input n)))
    (fold with_printed 0 (take k (run_entries p input n))) (state_behind k (run_moments p input n) (opening p input))

-- ---- the items that were printed, joined

abbrev pub items_of : List Entry → List ℤ
items_of [] = []
items_of (Ran here acts changed variables locals items ∷ es) = items ++ items_of es
items_of (Faulting here fault cause acts met locals ∷ es) = items_of es

abbrev pub output_of : Verdict → List ℤ
output_of (Ended output memory) = output
output_of (Faulted fault output) = output
output_of (GoesOn output) = output

-- The items that are told of a run, joined, are the output of its outcome, whatever it comes to.
abbrev pub ItemsGiveTheOutput : Type 0
ItemsGiveTheOutput =
    (p : Checked) (input : List ℤ) (n : ℕ) (v : Verdict) → IsOutcome p input n v → items_of (run_entries p input n) ≡ output_of v

-- ---- the fault, at the end

-- a statement that didn't fault
abbrev pub HasRun : Entry → Type 0
HasRun (Ran here acts changed variables locals items) = ⊤
HasRun (Faulting here fault cause acts met locals) = ⊥

-- the last entry is this fault on its line, with a cause that has it, and no other is a fault
abbrev pub EndsIn : Checked → Fault → List Entry → Type 0
EndsIn p fault es = (front : List Entry) × (here : Location) × (cause : Option Cause) × (acts : List Act) ×
    (met : List ℤ) × (locals : List OwnLocals) × AllByRecursion HasRun front
    × (here.line ≡ fault.line) × IsExplained p fault.kind cause × (es ≡ front ++ Faulting here fault cause acts met locals ∷ [])

abbrev pub HasItsFault : Checked → Verdict → List Entry → Type 0
HasItsFault p (Ended output memory) es = AllByRecursion HasRun es
HasItsFault p (Faulted fault output) es = EndsIn p fault es
HasItsFault p (GoesOn output) es = AllByRecursion HasRun es

-- The last entry that is told of a run is its fault, exactly where its outcome is one, and its cause has it; no other is a fault.
abbrev pub TheFaultIsLast : Type 0
TheFaultIsLast =
    (p : Checked) (input : List ℤ) (n : ℕ) (v : Verdict) → IsOutcome p input n v → HasItsFault p v (run_entries p input n)
