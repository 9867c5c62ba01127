-- Where faults of a statement are told: from the place behind each straight part on nothing is noted up to the next mark or halt.
use Rattle.std.specs.Prelude.{ℕ, ◌+◌, Bool, List, [], ◌∷◌, ◌++◌, length}
use Rattle.superstep_instructions.specs.declared.instr.Instr.{Instr}
use Rattle.superstep_instructions.specs.declared.instr.Instr.TheVariants.{Mark, Leave, Unmask}
use Rattle.pram_names.specs.declared.body.Step.{Step, Row_of-Step}
use Rattle.pram_names.specs.declared.body.Statement.{Statement, Row_of-Statement}
use Rattle.flat_stretches.specs.Along.{Run}
use Rattle.flat_stretches.specs.Folds.{Stand}
use Rattle.flat_stretches.specs.Tells.{IsCalm}
use Rattle.plain_form.specs.Shapes.{sent, chosen, looped, turned, flipped}
use Rattle.plain_form.specs.Inside as inside
use Rattle.plain_form.specs.Inside.{Frame}
use Rattle.plain_form.specs.Outside as outside

-- what stands from a place on: the place is calm if the one behind it all is
abbrev pub BeginsCalm : Run → ℕ → List Instr → Type 0
BeginsCalm t at is = Stand t at is → IsCalm t.code (at + length is) → IsCalm t.code at

-- ---- where statements begin

-- Each statement begins calm, since its mark comes first, behind sends and flags at most; and so does a part if the place behind it is
-- calm.
pub record StatementsBeginCalm : Type 0 where
  pub statement : (t : Run) (keep : Bool) (free at : ℕ) (held : Bool) (s : Statement) → Stand t at (outside.code keep free at held s) →
      IsCalm t.code at
  pub part : (t : Run) (keep : Bool) (free at : ℕ) (held : Bool) {k : _} (ss : Row_of-Statement k) →
      BeginsCalm t at (outside.part_code keep free at held ss)
  pub statements : (t : Run) (keep : Bool) (free at : ℕ) (held : Bool) (ss : List Statement) →
      BeginsCalm t at (outside.statements_code keep free at held ss)
  pub step : (t : Run) (w : Frame) (base at : ℕ) (held : Bool) (s : Step) → Stand t at (inside.step_code w base at held s) →
      IsCalm t.code at
  pub inner_part : (t : Run) (w : Frame) (base at : ℕ) (held : Bool) {k : _} (ss : Row_of-Step k) →
      BeginsCalm t at (inside.part_code w base at held ss)
  pub steps : (t : Run) (w : Frame) (base at : ℕ) (held : Bool) (ss : List Step) → BeginsCalm t at (inside.steps_code w base at held ss)
  -- a part with the send of what it holds, too
  pub sent : (t : Run) (at : ℕ) (part : List Instr) (left : Bool) → BeginsCalm t at part → BeginsCalm t at (sent part left)

-- ---- where parts end: if the place behind the whole is calm

-- before the send of what a part holds
abbrev pub PartsEndCalm : Type 0
PartsEndCalm = (t : Run) (at : ℕ) (part : List Instr) (left : Bool) → Stand t at (sent part left) →
    IsCalm t.code (at + length (sent part left)) → IsCalm t.code (at + length part)

-- The parts of an `if` outside pardo: behind the test, and behind the first part. (Behind the second one it is the end of the whole.)
abbrev pub BranchesAreCalm : Type 0
BranchesAreCalm = (t : Run) (start r : ℕ) (part : List Instr) (some : Bool) (other_part : ℕ → List Instr) →
    Stand t start (chosen start r part some other_part) → BeginsCalm t (start + 1) part →
    ((at : ℕ) → BeginsCalm t at (other_part at)) → IsCalm t.code (start + length (chosen start r part some other_part)) →
    IsCalm t.code start × IsCalm t.code (start + 1 + length part)

-- A loop from its head on: behind the test, and behind the body.
abbrev pub LoopsAreCalm : Type 0
LoopsAreCalm = (t : Run) (head line r : ℕ) (more : List Instr) (body : ℕ → List Instr) →
    let test = Mark line ∷ more in
    let start = head + length test + 1 in
    Stand t head (looped head test r body) → BeginsCalm t start (body start) → IsCalm t.code (head + length (looped head test r body)) →
    IsCalm t.code (head + length test) × IsCalm t.code (start + length (body start))

-- The turns of a `for`: behind the bounds, behind the setting, and behind the body.
abbrev pub TurnsAreCalm : Type 0
TurnsAreCalm = (t : Run) (start line r : ℕ) (more : List Instr) (body : ℕ → List Instr) →
    let set = Mark line ∷ more in
    let turn = start + 1 + length set in
    Stand t start (turned start r set body) → BeginsCalm t turn (body turn) → IsCalm t.code (start + length (turned start r set body)) →
    IsCalm t.code start × IsCalm t.code turn × IsCalm t.code (turn + length (body turn))

-- A pardo: behind its bounds, and behind its body.
abbrev pub RangesAreCalm : Type 0
RangesAreCalm = (t : Run) (start : ℕ) (before body : List Instr) → Stand t start (before ++ body ++ (Leave ∷ [])) →
    BeginsCalm t (start + length before) body → IsCalm t.code (start + length (before ++ body ++ (Leave ∷ []))) →
    IsCalm t.code (start + length before) × IsCalm t.code (start + length (before ++ body))

-- An `if` inside pardo: behind its test, behind its first part, and behind the second one.
abbrev pub MasksAreCalm : Type 0
MasksAreCalm = (t : Run) (start : ℕ) (test part : List Instr) (some : Bool) (other_part : ℕ → List Instr) →
    let before = test ++ part in
    let other = flipped some (start + length before) other_part in
    Stand t start (before ++ other ++ (Unmask ∷ [])) → BeginsCalm t (start + length test) part →
    ((at : ℕ) → BeginsCalm t at (other_part at)) → IsCalm t.code (start + length (before ++ other ++ (Unmask ∷ []))) →
    IsCalm t.code (start + length test) × IsCalm t.code (start + length before) × IsCalm t.code (start + length (before ++ other))

-- A `while` inside pardo: behind its loop.
abbrev pub ExitsAreCalm : Type 0
ExitsAreCalm = (t : Run) (start : ℕ) (before loop : List Instr) → Stand t start (before ++ loop ++ (Unmask ∷ [])) →
    IsCalm t.code (start + length (before ++ loop ++ (Unmask ∷ []))) → IsCalm t.code (start + length before + length loop)
