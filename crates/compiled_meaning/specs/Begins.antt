-- One statement of a program on the machine: its mark, and the stretch behind it.
use Rattle.std.specs.Prelude.{◌≡◌, ℕ, ◌+◌, List, [], ◌∷◌, length, Bool, true, false, Option, Some, None, nat_lt}
use Rattle.write_rules.specs.Verdict.{Faulted, GoesOn}
use Rattle.superstep_instructions.specs.declared.instr.Instr.{Instr}
use Rattle.superstep_instructions.specs.declared.instr.Instr.TheVariants.{Mark}
use Rattle.superstep_instructions.specs.Code.{SuperstepCode}
use Rattle.superstep_machine.specs.declared.key.Key.{Key}
use Rattle.superstep_machine.specs.Run.{fault_of}
use Rattle.pram_meaning.specs.Store.{State}
use Rattle.bsp_verify.specs.WellFormed.{IsWellFormed}
use Rattle.flat_machine.specs.Flat.{Flat, after_instr}
use Rattle.flat_machine.specs.ByInstructions.{going, IsFlatOutcome}
use Rattle.flat_machine.specs.Verdicts.{told}
use Rattle.flat_stretches.specs.Applied.{applied, AsksNone}
use Rattle.flat_stretches.specs.Along.{Run, Comes}
use Rattle.flat_stretches.specs.Folds.{Stand, acts_at_once, costs, IsFine, MayHold}
use Rattle.flat_stretches.specs.Tells.{IsCalm}
use Rattle.flat_stretches.specs.Closes.{ComesOut}
use Rattle.flat_stretches.specs.Notes.{notes}
use Rattle.exchange_bound.specs.Bound.{one_if}
use Rattle.compiled_meaning.specs.Between.{IsBetween}

-- the state behind the mark, seen with the held write applied
abbrev pub begun : SuperstepCode → ℕ → Flat → Flat
begun code line f = after_instr code (Mark line) (applied code f)

-- and behind the stretch
abbrev pub done : SuperstepCode → ℕ → List Instr → Flat → Flat
done code line is f = acts_at_once code is (begun code line f)

-- the run comes there with no fault told
pub record HasPassed (t : Run) (line : ℕ) (is : List Instr) (behind : Bool) (place spent : ℕ) (f g : Flat) : Type 0 where
  pub comes : Comes t (going (place + 1 + length is) g) (spent + costs t is (after_instr t.code (Mark line) f))
  pub seen : applied t.code g ≡ done t.code line is f
  pub told : told t.code g ≡ None
  pub holds : MayHold behind g

-- what the stretch notes is the outcome, with the output of the statements before
abbrev pub PassesOrFaults : Run → (line : ℕ) → List Instr → Bool → (place spent : ℕ) → State → Flat → Option Key → Type 0
PassesOrFaults t line is behind place spent m f None = (g : Flat) × HasPassed t line is behind place spent f g
PassesOrFaults t line is behind place spent m f (Some key) = IsFlatOutcome t.code t.input t.bound (Faulted (fault_of key) m.output)

-- if the bound lets the statement begin; and if not, the run is over
abbrev pub BeginsOrEnds : Run → (line : ℕ) → List Instr → (before behind : Bool) → (place spent : ℕ) → State → Flat → Bool → Type 0
BeginsOrEnds t line is before behind place spent m f true =
    PassesOrFaults t line is behind place spent m f (notes t.code is (begun t.code line f))
BeginsOrEnds t line is before behind place spent m f false = ComesOut t (GoesOn m.output) (spent + one_if before + 1)

-- for every statement of well-formed code whose stretch is fine and leaves no read held, and behind which faults are told
abbrev pub StatementsGoOn : Type 0
StatementsGoOn = (t : Run) → IsWellFormed t.code → (line : ℕ) (is : List Instr) (before behind : Bool) (m : State) (place spent : ℕ)
    (f : Flat) → IsBetween t before m place spent f → AsksNone (applied t.code f) → Stand t place (Mark line ∷ is) →
    IsFine before is behind → (done t.code line is f).uniform.asks ≡ [] → IsCalm t.code (place + 1 + length is) →
    BeginsOrEnds t line is before behind place spent m f (nat_lt m.count t.bound)
