-- Outside pardo the machine shows a state of the meaning, and the code of a formula computes what the program sees.
use Rattle.std.specs.Prelude.{◌≡◌, ℕ, ◌≤◌}
use Rattle.pram_values.specs.declared.place.Place.TheVariants.{All}
use Rattle.superstep_instructions.specs.declared.instr.Side.TheVariants.{Uniform}
use Rattle.superstep_instructions.specs.Code.{SuperstepCode}
use Rattle.pram_check.specs.Checked.{Checked}
use Rattle.pram_check.specs.Bounded.{names_of}
use Rattle.pram_meaning.specs.Store.{State, seen}
use Rattle.flat_machine.specs.Flat.{Flat}
use Rattle.flat_stretches.specs.Applied.{IsBare, AsksNone}
use Rattle.flat_stretches.specs.Folds.{acts_at_once}
use Rattle.flat_stretches.specs.Leaving.{IsLeft}
use Rattle.flat_stretches.specs.Notes.{notes}
use Rattle.statement_evaluation.specs.Whole.{value}
use Rattle.statement_evaluation.specs.Noted.{notes_behind}
use Rattle.plain_form.specs.Registers.{behind_variables}
use Rattle.plain_form.specs.Formulas.{Formula, Pair}
use Rattle.plain_form.specs.Groups.{evaluated, value_at, first_at, second_at}
use Rattle.compiled_formulas.specs.Terms.{term, steps_in}
use Rattle.compiled_formulas.specs.Environments.{IsNamed, Shows}
use Rattle.compiled_formulas.specs.Headings.{heading_of}

-- the registers and the memory show what the program sees, and no write and no read is held
pub record ShowsOutside (p : Checked) (m : State) (f : Flat) : Type 0 where
  pub shows : Shows Uniform (names_of p) (seen p m) f.uniform.registers f.uniform.registers f.memory
  pub bare : IsBare f
  pub rests : AsksNone f

-- The code of a formula leaves what was shown, in the same statement and with all registers below `base`, and notes what
-- evaluation says, position by position.
pub record IsEvaluatedOutside (code : SuperstepCode) (p : Checked) (m : State) (base : ℕ) (e : Formula) (f : Flat) : Type 0 where
  pub gives : (acts_at_once code (evaluated Uniform base e) f).uniform.registers (value_at Uniform base e) ≡ value (seen p m) (term e)
  pub shows : ShowsOutside p m (acts_at_once code (evaluated Uniform base e) f)
  pub left : IsLeft base f (acts_at_once code (evaluated Uniform base e) f)
  pub tells : notes code (evaluated Uniform base e) f ≡ notes_behind (heading_of f) 0 All (steps_in (seen p m) e)

-- what a formula's code may be run from: its names can be named, and the registers from `base` on are free
abbrev pub MayEvaluateOutside : SuperstepCode → Checked → State → ℕ → Formula → Flat → Type 0
MayEvaluateOutside code p m base e f =
    (code.layout ≡ p.layout) × IsNamed (names_of p) e × (behind_variables p.uniforms ≤ base) × ShowsOutside p m f

abbrev pub FormulasAreEvaluatedOutside : Type 0
FormulasAreEvaluatedOutside = (code : SuperstepCode) (p : Checked) (m : State) (base : ℕ) (e : Formula) (f : Flat) →
    MayEvaluateOutside code p m base e f → IsEvaluatedOutside code p m base e f

-- and both registers of a pair have their values
abbrev pub PairsAreEvaluatedOutside : Type 0
PairsAreEvaluatedOutside = (code : SuperstepCode) (p : Checked) (m : State) (base : ℕ) (d e : Formula) (f : Flat) →
    MayEvaluateOutside code p m base (Pair d e) f →
    let g = acts_at_once code (evaluated Uniform base (Pair d e)) f in
    (g.uniform.registers (first_at Uniform base d e) ≡ value (seen p m) (term d))
    × (g.uniform.registers (second_at Uniform base d e) ≡ value (seen p m) (term e))
