-- A run of a program's code between two statements, beside the state of the program there.
use Rattle.std.specs.Prelude.{◌≡◌, ℕ, ◌≤◌, length, Bool, None}
use Rattle.pram_model.specs.Layout.{total_size}
use Rattle.pram_check.specs.Checked.{Checked}
use Rattle.pram_meaning.specs.Store.{State}
use Rattle.superstep_machine.specs.Run.{items}
use Rattle.bsp_verify.specs.WellFormed.{IsWellFormed}
use Rattle.flat_machine.specs.Flat.{Flat}
use Rattle.flat_machine.specs.ByInstructions.{going}
use Rattle.flat_machine.specs.Verdicts.{told}
use Rattle.flat_stretches.specs.Along.{Run, Comes}
use Rattle.flat_stretches.specs.Folds.{MayHold}

-- a run of well-formed code with the program's rule, its number of processors and its layout
pub record IsRunOf (p : Checked) (t : Run) : Type 0 where
  pub rule : t.code.rule ≡ p.rule
  pub procs : t.code.procs ≡ p.procs
  pub layout : t.code.layout ≡ p.layout
  pub formed : IsWellFormed t.code

-- The run has come to a place by at most so many exchanges, no fault is told, and as many statements have begun as in the program,
-- whose output is the run's. A write may be held, or none is.
pub record IsBetween (t : Run) (held : Bool) (m : State) (place spent : ℕ) (f : Flat) : Type 0 where
  pub comes : Comes t (going place f) spent
  pub told : told t.code f ≡ None
  pub holds : MayHold held f
  pub count : f.uniform.count ≡ m.count
  pub within : m.count ≤ t.bound
  pub output : items f.uniform.output ≡ m.output

-- a state of the program has a value for each uniform variable and each cell
pub record HasSizes (p : Checked) (m : State) : Type 0 where
  pub uniforms : length m.uniforms ≡ p.uniforms
  pub cells : length m.cells ≡ total_size p.layout
