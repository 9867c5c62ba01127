-- A write behind the code of its two formulas: of the value of the second one to a cell at the subscript that the first one gives.
use Rattle.std.specs.Prelude.{◌≡◌, ℕ, ◌+◌, List, [], ◌∷◌, ◌++◌, pos, slice_index_or}
use Rattle.write_rules.specs.Combining.{AreWriters}
use Rattle.superstep_instructions.specs.declared.instr.Side.{Side}
use Rattle.superstep_instructions.specs.declared.instr.Side.TheVariants.{Private}
use Rattle.superstep_instructions.specs.declared.instr.Instr.{Instr}
use Rattle.superstep_instructions.specs.declared.instr.Instr.TheVariants.{Put}
use Rattle.superstep_instructions.specs.Code.{SuperstepCode}
use Rattle.superstep_machine.specs.Sending.{settled}
use Rattle.pram_check.specs.Checked.{Checked}
use Rattle.pram_meaning.specs.Store.{State}
use Rattle.flat_machine.specs.Flat.{Flat}
use Rattle.flat_stretches.specs.Folds.{acts_at_once}
use Rattle.flat_stretches.specs.Notes.{notes}
use Rattle.statement_evaluation.specs.Terms.{Writes}
use Rattle.statement_evaluation.specs.Rows.{Row, rows}
use Rattle.statement_evaluation.specs.Noted.{noted, verdict, writes_at}
use Rattle.plain_form.specs.Formulas.{Formula, Pair, positions}
use Rattle.plain_form.specs.Groups.{evaluated, first_at, second_at}
use Rattle.compiled_formulas.specs.Terms.{term}
use Rattle.compiled_formulas.specs.Headings.{heading_of}
use Rattle.compiled_formulas.specs.Inside.{active_ones, MayEvaluateInside}
use Rattle.compiled_formulas.specs.Tasks.{IsSingle}

-- the code of a subscript and a value, and the write at the last position
abbrev pub write_code : Side → ℕ → ℕ → Formula → Formula → List Instr
write_code side base entry d e =
    evaluated side base (Pair d e) ++ Put side entry (first_at side base d e) (second_at side base d e) (positions d + positions e + 1) ∷ []

-- the processors of the range that are active, each with what evaluation says of its write
abbrev pub write_rows : Checked → State → ℕ → Formula → Formula → Flat → List Row
write_rows p m entry d e f = rows p m (Writes entry (term d) (term e)) (active_ones f)

-- The write notes what evaluation says, conflicts of writes included; each cell gets what the rule gives for its writers; and all else is
-- as the code of the formulas leaves it.
pub record IsWrittenInside (code : SuperstepCode) (p : Checked) (m : State) (base entry : ℕ) (d e : Formula) (f : Flat) : Type 0 where
  pub tells : notes code (write_code Private base entry d e) f
      ≡ noted (heading_of f) p.rule p.layout (Writes entry (term d) (term e)) (write_rows p m entry d e f)
  pub cells : (c : ℕ) → (acts_at_once code (write_code Private base entry d e) f).memory c
      ≡ settled (verdict p.rule (writes_at c (write_rows p m entry d e f))) (slice_index_or m.cells c (pos 0))
  pub uniform : (acts_at_once code (write_code Private base entry d e) f).uniform
      ≡ (acts_at_once code (evaluated Private base (Pair d e)) f).uniform
  pub own : (acts_at_once code (write_code Private base entry d e) f).own ≡ (acts_at_once code (evaluated Private base (Pair d e)) f).own

-- where writers of one cell have different indices, and all values have 64 bits
abbrev pub WritesAreTasks : Type 0
WritesAreTasks = (code : SuperstepCode) (p : Checked) (locals : ℕ) (m : State) (base entry : ℕ) (d e : Formula) (f : Flat) →
    MayEvaluateInside code p locals m base (Pair d e) f → IsSingle d → IsSingle e →
    ((c : ℕ) → AreWriters (writes_at c (write_rows p m entry d e f))) → IsWrittenInside code p m base entry d e f
