-- Well-formed code: places can be given states such that every instruction is met.
use Rattle.std.specs.Prelude.{◌≡◌, ℕ, ◌<◌, length, Some, slice_get}
use Rattle.superstep_instructions.specs.declared.instr.Instr.{Instr}
use Rattle.superstep_instructions.specs.Code.{SuperstepCode}
use Rattle.bsp_verify.specs.declared.state.State.{State}
use Rattle.bsp_verify.specs.States.{opening, after}
use Rattle.bsp_verify.specs.Control.{Leads, IsReached}
use Rattle.bsp_verify.specs.Judging.{IsAllowed}

-- The instruction at k is met, where each place has the state that `given` gives it: k is a successor of a lower place, or the first
-- one; the instruction may stand there; and each successor has the state that it leaves.
pub record IsMet (code : SuperstepCode) (given : ℕ → State) (k : ℕ) : Type 0 where
  pub instr : Instr
  pub is : slice_get code.instructions k ≡ Some instr
  pub reached : IsReached code k
  pub allowed : IsAllowed code k instr (given k)
  pub leaves : (t : ℕ) → Leads instr k t → given t ≡ after instr (given k)

-- the instructions below k are met
pub record AreMet (code : SuperstepCode) (k : ℕ) (given : ℕ → State) : Type 0 where
  pub start : given 0 ≡ opening
  pub each : (j : ℕ) → j < k → IsMet code given j

-- they can be met together, by some states of the places
abbrev pub CanBeMet : SuperstepCode → ℕ → Type 0
CanBeMet code k = (given : ℕ → State) × AreMet code k given

-- there are instructions, and all of them can be met together
abbrev pub IsWellFormed : SuperstepCode → Type 0
IsWellFormed code = (0 < length code.instructions) × CanBeMet code (length code.instructions)
