-- What a statement leaves where no processor notes a fault of its own: all of it from the values of whole evaluations.
use Rattle.std.specs.Prelude.{◌≡◌, ◌<◌, ℕ, List, [], ◌∷◌, map, length, Bool, true, false, not, if◌then◌else◌, Option, Some, None, Ok, ℤ}
use Rattle.std.specs.Prelude.{pos, slice_index_or, FitsSigned}
use Rattle.std.specs.Int.{w64}
use Rattle.std.specs.List.{filter, fold}
use Rattle.std.proofs.Common.{eqb}
use Rattle.pram_model.specs.declared.rule.Rule.{Rule}
use Rattle.pram_values.specs.Total.{total}
use Rattle.pram_values.specs.Truth.{is_nonzero}
use Rattle.write_rules.specs.declared.entry.Entry.{Entry}
use Rattle.write_rules.specs.Combining.{AreWriters}
use Rattle.superstep_machine.specs.Setting.{combining}
use Rattle.superstep_machine.specs.Sending.{join, verdict_on, settled}
use Rattle.pram_check.specs.Checked.{Checked}
use Rattle.pram_meaning.specs.Store.{State, Member, seen_by, member_of, with_local}
use Rattle.pram_meaning.specs.Attempt.{Gives}
use Rattle.pram_meaning.specs.Conflict.{Part}
use Rattle.pram_meaning.specs.Together.{those, with_locals, overwritten}
use Rattle.statement_evaluation.specs.Terms.{Term, Task, Gets}
use Rattle.statement_evaluation.specs.Whole.{value, whole}
use Rattle.statement_evaluation.specs.Rows.{Row, rows, cut_parts, trail}
use Rattle.statement_evaluation.specs.Noted.{Heading, notes, writes_at, verdict}

-- no processor notes a fault of its own
abbrev pub AreFine : Heading → List Row → Type 0
AreFine h rows = notes h rows ≡ None

-- ---- parts

-- a member's part, if it comes to its value
abbrev pub whole_part : Checked → State → Task → ℕ → Part
whole_part p m task v =
    let w = whole (seen_by p m v) task in
    record { member = v; processor = (member_of m.team v).index; attempt = Gives (trail w.steps) w.value }

abbrev pub PartsAreWhole : Type 0
PartsAreWhole = (h : Heading) (p : Checked) (m : State) (task : Task) (vs : List ℕ) → AreFine h (rows p m task vs) →
    cut_parts p m task vs ≡ map (whole_part p m task) vs

-- ---- tests, and values for a local

-- whether a value counts as this
abbrev pub counts_as : Bool → ℤ → Bool
counts_as true z = is_nonzero z
counts_as false z = not (is_nonzero z)

abbrev pub TestsAreValues : Type 0
TestsAreValues =
    (h : Heading) (p : Checked) (m : State) (t : Term) (vs : List ℕ) → AreFine h (rows p m (Gets t) vs) → (b : Bool) →
    those b (cut_parts p m (Gets t) vs) ≡ filter (λ v. counts_as b (value (seen_by p m v) t)) vs

abbrev pub LocalsAreValues : Type 0
LocalsAreValues =
    (h : Heading) (p : Checked) (m : State) (t : Term) (vs : List ℕ) → AreFine h (rows p m (Gets t) vs) → (x : ℕ) (team : List Member) →
    with_locals x (cut_parts p m (Gets t) vs) team ≡ fold (λ team v. with_local x v (value (seen_by p m v) t) team) team vs

-- ---- writes

-- each cell has what the rule gives for its writers, and without writers its old value
abbrev pub CellsAreSettled : Type 0
CellsAreSettled =
    (h : Heading) (p : Checked) (m : State) (task : Task) (vs : List ℕ) → AreFine h (rows p m task vs) →
    (rule : Rule) (cells : List ℤ) (c : ℕ) →
    c < length cells →
    slice_index_or (overwritten rule (cut_parts p m task vs) 0 cells) c (pos 0)
    ≡ settled (verdict rule (writes_at c (rows p m task vs))) (slice_index_or cells c (pos 0))

abbrev pub NoCellIsLost : Type 0
NoCellIsLost = (rule : Rule) (xs : List Part) (cells : List ℤ) → length (overwritten rule xs 0 cells) ≡ length cells

-- a write of a value by the processor with that index, as far as it is to cell c
abbrev pub entry_by : Rule → ℕ → ℤ → Option ℕ → ℤ → Option Entry
entry_by rule c i None v = None
entry_by rule c i (Some d) v = if eqb d c then Some ((combining rule).single i v) else None

-- what the writers of cell c come to
abbrev pub entry_at : Rule → ℕ → List Row → Option Entry
entry_at rule c = total None (join rule) (λ (r : Row). entry_by rule c r.processor r.whole.value.cell r.whole.value.value)

-- the machine's verdict on them is the rule's
abbrev pub EntriesAreTheRule : Type 0
EntriesAreTheRule = (rule : Rule) (c : ℕ) (rows : List Row) → AreWriters (writes_at c rows) →
    verdict_on rule (entry_at rule c rows) ≡ verdict rule (writes_at c rows)

-- one writer leaves its value, under every rule
abbrev pub OneWriterIsTheRule : Type 0
OneWriterIsTheRule = (rule : Rule) (i v : ℤ) → FitsSigned w64 v → verdict rule (record { processor = i; value = v } ∷ []) ≡ Some (Ok v)
