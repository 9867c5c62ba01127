-- What a refusal says of code.
use Rattle.std.specs.Prelude.{◌≡◌, ℕ, ◌+◌, Option, Some, None, slice_get}
use Rattle.superstep_instructions.specs.declared.instr.Instr.{Instr}
use Rattle.superstep_instructions.specs.Code.{SuperstepCode}
use Rattle.bsp_verify.specs.declared.state.State.{State}
use Rattle.bsp_verify.specs.declared.fault.Reason.{Reason}
use Rattle.bsp_verify.specs.declared.fault.Reason.TheVariants as Why
use Rattle.bsp_verify.specs.declared.fault.VerifyFault.{VerifyFault}
use Rattle.bsp_verify.specs.declared.fault.VerifyFault.TheVariants.{NotVerified, OutOfMemory}
use Rattle.bsp_verify.specs.Control.{IsReached}
use Rattle.bsp_verify.specs.Judging.{first_reason}
use Rattle.bsp_verify.specs.WellFormed.{AreMet, CanBeMet, IsWellFormed}

-- where nothing is against the instruction itself, it's that a successor has another state
abbrev pub or_state : Option Reason → Reason
or_state (Some why) = why
or_state None = Why.State

-- the reason against what stands at a reached place with this state
abbrev pub reason_at : SuperstepCode → ℕ → Option Instr → State → Reason
reason_at code k None s = Why.End
reason_at code k (Some i) s = or_state (first_reason code k i s)

-- The code isn't well formed. The instructions below k can be met together, with the one at k they can't. The reason is the first
-- against the one at k in the state that any way to meet those below gives it; where no place below leads to it, that it has none.
pub record IsFirstFault (code : SuperstepCode) (k : ℕ) (why : Reason) : Type 0 where
  pub refused : IsWellFormed code → ⊥
  pub below : CanBeMet code k
  pub bad : CanBeMet code (k + 1) → ⊥
  pub no_state : (IsReached code k → ⊥) → why ≡ Why.State
  pub reason : IsReached code k → (given : ℕ → State) → AreMet code k given → why ≡ reason_at code k (slice_get code.instructions k)
      (given k)

-- of want of memory nothing is said
abbrev pub IsRefusal : SuperstepCode → VerifyFault → Type 0
IsRefusal code (NotVerified at why) = IsFirstFault code at why
IsRefusal code OutOfMemory = Unit {0}
