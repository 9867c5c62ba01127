-- Where instructions lead.
use Rattle.std.specs.Prelude.{◌≡◌, ℕ, ◌+◌, ◌<◌, Bool, true, false, Some, slice_get, ◌⊎◌}
use Rattle.superstep_instructions.specs.declared.instr.Instr.{Instr}
use Rattle.superstep_instructions.specs.declared.instr.Instr.TheVariants.{Jump, JumpIfZero, Halt}
use Rattle.superstep_instructions.specs.Code.{SuperstepCode}

-- an instruction at a place has t as a successor
abbrev pub Leads : Instr → ℕ → ℕ → Type 0
Leads Halt place t = ⊥
Leads (Jump target) place t = t ≡ target
Leads (JumpIfZero r target) place t = (t ≡ target) ⊎ (t ≡ place + 1)
Leads _ place t = t ≡ place + 1

-- whether the next place is a successor
abbrev pub goes_on : Instr → Bool
goes_on Halt = false
goes_on (Jump target) = false
goes_on _ = true

-- runs begin at t, or t is a successor of a place below k
abbrev pub IsLed : SuperstepCode → ℕ → ℕ → Type 0
IsLed code k t = (t ≡ 0) ⊎ ((j : ℕ) × (i : Instr) × (j < k) × (slice_get code.instructions j ≡ Some i) × Leads i j t)

-- a place that isn't the first is a successor of a lower one
abbrev pub IsReached : SuperstepCode → ℕ → Type 0
IsReached code k = IsLed code k k
