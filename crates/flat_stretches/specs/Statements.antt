-- One statement of well-formed code: from its mark through a stretch to what that leaves, or to its fault.
use Rattle.std.specs.Prelude.{◌≡◌, ℕ, ◌+◌, ◌<◌, List, [], length, Bool, Some, None, ℤ}
use Rattle.write_rules.specs.Verdict.{Faulted}
use Rattle.superstep_instructions.specs.declared.instr.Instr.{Instr}
use Rattle.superstep_instructions.specs.declared.instr.Instr.TheVariants.{Mark}
use Rattle.superstep_instructions.specs.Code.{SuperstepCode}
use Rattle.superstep_machine.specs.declared.key.Key.{Key}
use Rattle.superstep_machine.specs.Run.{items, items_below, fault_of}
use Rattle.bsp_verify.specs.WellFormed.{IsWellFormed}
use Rattle.flat_machine.specs.Flat.{Flat, after_instr, opening}
use Rattle.flat_machine.specs.ByInstructions.{going, IsFlatOutcome}
use Rattle.flat_machine.specs.Verdicts.{told}
use Rattle.flat_stretches.specs.Applied.{applied, IsBare, AsksNone}
use Rattle.flat_stretches.specs.Along.{Run, Comes, IsAt}
use Rattle.flat_stretches.specs.Folds.{Stand, acts, acts_at_once, costs, IsFine, MayHold}
use Rattle.flat_stretches.specs.Tells.{Tells}

-- The run is behind the mark of a statement: no key is told, no read is held or awaited, and all of the output is of statements before.
pub record HasBegun (t : Run) (place spent : ℕ) (f : Flat) : Type 0 where
  pub comes : Comes t (going place f) spent
  pub told : told t.code f ≡ None
  pub rests : AsksNone f
  pub output : items_below f.uniform.count f.uniform.output ≡ items f.uniform.output

-- a run begins with no key told, no write held, and no read held or awaited
pub record IsAtRest (code : SuperstepCode) (f : Flat) : Type 0 where
  pub told : told code f ≡ None
  pub bare : IsBare f
  pub rests : AsksNone f

abbrev pub RunsBeginAtRest : Type 0
RunsBeginAtRest = (code : SuperstepCode) (input : List ℤ) → IsAtRest code (opening input)

-- a mark below the bound, where no key is told, begins a statement
abbrev pub MarksBegin : Type 0
MarksBegin = (t : Run) → IsWellFormed t.code → (place : ℕ) (f : Flat) (spent : ℕ) → Comes t (going place f) spent → (line : ℕ) →
    IsAt t place (Mark line) → f.uniform.count < t.bound → told t.code f ≡ None →
    HasBegun t (place + 1) spent (after_instr t.code (Mark line) f)

-- a write that is held before a mark is held behind it, and none else
abbrev pub MarksHold : Type 0
MarksHold = (code : SuperstepCode) (line : ℕ) (held : Bool) (f : Flat) → MayHold held f → MayHold held (after_instr code (Mark line) f)

-- A stretch of a statement: `f` with all of it carried out and each write applied at once.
abbrev pub finished : Run → List Instr → Flat → Flat
finished t is f = acts_at_once t.code is (applied t.code f)

-- without a key the run comes behind it, and is seen there as finished
pub record HasFinished (t : Run) (is : List Instr) (behind : Bool) (place spent : ℕ) (f g : Flat) : Type 0 where
  pub comes : Comes t (going (place + length is) g) (spent + costs t is f)
  pub seen : applied t.code g ≡ finished t is f
  pub told : told t.code g ≡ None
  pub holds : MayHold behind g

abbrev pub StatementsFinish : Type 0
StatementsFinish = (t : Run) (is : List Instr) (before behind : Bool) (place spent : ℕ) (f : Flat) → HasBegun t place spent f →
    Stand t place is → IsFine before is behind → MayHold before f → (finished t is f).key ≡ None →
    HasFinished t is behind place spent f (acts t.code is f)

-- and with one that is the outcome, with the output of the statements before, where the place behind it tells and no read is held
abbrev pub StatementsFault : Type 0
StatementsFault = (t : Run) (is : List Instr) (before behind : Bool) (place spent : ℕ) (f : Flat) → HasBegun t place spent f →
    Stand t place is → IsFine before is behind → MayHold before f → (key : Key) → (finished t is f).key ≡ Some key →
    (finished t is f).uniform.asks ≡ [] → Tells t (place + length is) →
    IsFlatOutcome t.code t.input t.bound (Faulted (fault_of key) (items f.uniform.output))
