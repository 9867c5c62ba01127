-- Workers that exchange messages are one flat machine.
use Rattle.std.specs.Prelude.{◌≡◌, ℕ, ◌≤◌, map, ℤ, List, Some}
use Rattle.pram_model.specs.Layout.{total_size}
use Rattle.write_rules.specs.Verdict.{Verdict}
use Rattle.address_map.specs.Lawful.{Shape, IsLawful}
use Rattle.superstep_instructions.specs.Code.{SuperstepCode}
use Rattle.superstep_machine.specs.Setting.{Setting}
use Rattle.superstep_machine.specs.Run.{IsBspOutcome}
use Rattle.superstep_machine.specs.Run as workers
use Rattle.superstep_machine.specs.Trace.{Exchange, exchanges_by}
use Rattle.flat_machine.specs.ByExchanges.{Plan}
use Rattle.flat_machine.specs.ByExchanges as flat
use Rattle.flat_machine.specs.ByInstructions.{IsFlatOutcome}

-- a lawful map, with a place for each cell of the layout
pub record IsMapFor (code : SuperstepCode) (map : Shape) : Type 0 where
  pub lawful : IsLawful map
  pub room : total_size code.layout ≤ map.count

-- the same run without a map
abbrev pub plan : Setting → Plan
plan t = record { code = t.code; bound = t.bound; enough = t.enough }

-- For every code, well formed or not, every number of workers and every lawful map: after so many exchanges both runs are over with one
-- outcome, or neither is.
abbrev pub OutcomesAreSame : Type 0
OutcomesAreSame = (t : Setting) → IsMapFor t.code t.map → (n : ℕ) (input : List ℤ) →
    workers.outcome_by t n input ≡ flat.outcome_by (plan t) n input

-- and their exchanges are for the same
abbrev pub PurposesAreSame : Type 0
PurposesAreSame = (t : Setting) → IsMapFor t.code t.map → (n : ℕ) (input : List ℤ) →
    map (λ (e : Exchange). e.purpose) (exchanges_by t n input) ≡ flat.purposes_by (plan t) n input

-- The outcomes on workers are those of the flat machine, instruction by instruction: no number of workers and no map is in them.
abbrev pub WorkersAreFlat : Type 0
WorkersAreFlat = (code : SuperstepCode) (map : Shape) → IsMapFor code map → (input : List ℤ) (bound : ℕ) (verdict : Verdict) →
    (IsBspOutcome code map input bound verdict → IsFlatOutcome code input bound verdict) × (IsFlatOutcome code input bound verdict →
    IsBspOutcome code map input bound verdict)

-- the outcome of the flat machine's run exchange by exchange, with enough exchanges and enough instructions between them
pub record IsOutcomeByExchanges (code : SuperstepCode) (input : List ℤ) (bound : ℕ) (verdict : Verdict) : Type 0 where
  pub enough : ℕ
  pub exchanges : ℕ
  pub ends : flat.outcome_by (record { code = code; bound = bound; enough = enough }) exchanges input ≡ Some (Some verdict)

-- It is that of the run instruction by instruction, for every code.
abbrev pub RunsAgree : Type 0
RunsAgree = (code : SuperstepCode) (input : List ℤ) (bound : ℕ) (verdict : Verdict) →
    (IsOutcomeByExchanges code input bound verdict → IsFlatOutcome code input bound verdict) × (IsFlatOutcome code input bound verdict →
    IsOutcomeByExchanges code input bound verdict)
