-- What the one pass over the code knows of each place: its state, if it was given one.
use Rattle.std.specs.Prelude.{◌≡◌, ℕ, ◌<◌, List, length, Option, Some, None, slice_get, ◌⊎◌}
use Rattle.superstep_instructions.specs.declared.instr.Instr.{Instr}
use Rattle.superstep_instructions.specs.Code.{SuperstepCode}
use Rattle.bsp_verify.specs.declared.state.State.{State}
use Rattle.bsp_verify.specs.States.{opening, after}
use Rattle.bsp_verify.specs.Control.{Leads, IsLed, IsReached}
use Rattle.bsp_verify.specs.Judging.{IsAllowed}
use Rattle.bsp_verify.specs.WellFormed.{AreMet}

abbrev pub or_none : Option (Option State) → Option State
or_none None = None
or_none (Some s) = s

abbrev pub state_at : List (Option State) → ℕ → Option State
state_at table t = or_none (slice_get table t)

-- new has this state at these places, and else what old has
pub record Adds (old new : List (Option State)) (places : ℕ → Type 0) (state : State) : Type 0 where
  pub long : length new ≡ length old
  pub gives : (t : ℕ) → places t → state_at new t ≡ Some state
  pub grows : (t : ℕ) (s : State) → state_at old t ≡ Some s → state_at new t ≡ Some s
  pub only : (t : ℕ) (s : State) → state_at new t ≡ Some s → (state_at old t ≡ Some s) ⊎ (places t × (s ≡ state))

-- one of these places has another state
pub record Clashes (old : List (Option State)) (places : ℕ → Type 0) (state : State) : Type 0 where
  pub place : ℕ
  pub other : State
  pub here : places place
  pub has : state_at old place ≡ Some other
  pub differs : other ≡ state → ⊥

-- the instruction at j is met by the table
pub record IsDone (code : SuperstepCode) (table : List (Option State)) (j : ℕ) : Type 0 where
  pub instr : Instr
  pub state : State
  pub is : slice_get code.instructions j ≡ Some instr
  pub has : state_at table j ≡ Some state
  pub reached : IsReached code j
  pub allowed : IsAllowed code j instr state
  pub leaves : (t : ℕ) → Leads instr j t → state_at table t ≡ Some (after instr state)

-- The table after the instructions below k. Its states are those that any way to meet these instructions gives.
pub record IsTable (code : SuperstepCode) (k : ℕ) (table : List (Option State)) : Type 0 where
  pub long : length table ≡ length code.instructions
  pub start : state_at table 0 ≡ Some opening
  pub each : (j : ℕ) → j < k → IsDone code table j
  pub why : (t : ℕ) (s : State) → state_at table t ≡ Some s → IsLed code k t
  pub forced : (given : ℕ → State) → AreMet code k given → (t : ℕ) (s : State) → state_at table t ≡ Some s → given t ≡ s

abbrev pub or_opening : Option State → State
or_opening None = opening
or_opening (Some s) = s

-- the state of each place by a table
abbrev pub given_by : List (Option State) → ℕ → State
given_by table t = or_opening (state_at table t)
