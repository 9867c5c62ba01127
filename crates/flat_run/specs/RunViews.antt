-- What a run of the plain program stands for.
use Rattle.std.specs.Prelude.{◌≡◌, ℕ, ◌+◌, ◌≤◌, ◌<◌, ◌^◌, Bool, true, false, Option, Some, None}
use Rattle.superstep_instructions.specs.declared.instr.Instr.{Instr}
use Rattle.superstep_instructions.specs.declared.instr.Instr.TheVariants.{Mark}
use Rattle.write_rules.specs.declared.outcome.Outcome.{Outcome}
use Rattle.write_rules.specs.Verdict.{Verdict, verdict_of}
use Rattle.superstep_instructions.specs.Code.{SuperstepCode}
use Rattle.superstep_machine.specs.Run.{Way, On, Past, Lost}
use Rattle.flat_run.specs.declared.run.Stand.{Stand}
use Rattle.flat_run.specs.declared.run.Stand.TheVariants as stand
use Rattle.flat_run.specs.declared.run.Run.{Run}
use Rattle.superstep_machine.specs.Stretch.{advance}
use Rattle.flat_machine.specs.Flat.{Flat, after_instr}
use Rattle.flat_machine.specs.ByExchanges.{State}
use Rattle.flat_machine.specs.ByInstructions.{stopped, going, everywhere}
use Rattle.flat_run.specs.Views.{flat_of, IsSized, AreSame}

abbrev pub way_is : Stand → Way
way_is stand.On = On
way_is (stand.Over key ended) = Past key ended
way_is stand.Lost = Lost

abbrev pub state_of : Run → State
state_of r = record { flat = flat_of r.machine; place = r.place; way = way_is r.stand }

-- a run within a bound on statements
pub record IsRun (code : SuperstepCode) (bound : ℕ) (r : Run) : Type 0 where
  pub sized : IsSized code r.machine
  pub count : r.machine.uniform.count ≤ bound
  pub place : r.place < 2 ^ 16 + 1

-- Two states don't differ but in processors outside the range.
pub record AreSameStates (s t : State) : Type 0 where
  pub flat : AreSame s.flat t.flat
  pub place : s.place ≡ t.place
  pub way : s.way ≡ t.way

-- an instruction can be counted below the bound
abbrev pub IsCounted : Instr → ℕ → ℕ → Type 0
IsCounted (Mark line) count bound = count < bound
IsCounted _ count bound = Unit {0}

-- where an instruction leads a run
abbrev pub led : SuperstepCode → ℕ → Option Instr → ℕ → Flat → State
led code bound found place f =
    advance bound (λ (g : Flat). g.uniform) (after_instr code) (record { flat = f; place = place; way = Lost }) (stopped code everywhere)
    going found place f

-- whether a run goes on
abbrev pub is_going : Way → Bool
is_going On = true
is_going _ = false

-- the verdict of an outcome, if there is one
abbrev pub verdict_in : Option Outcome → Option Verdict
verdict_in None = None
verdict_in (Some outcome) = Some (verdict_of outcome)
