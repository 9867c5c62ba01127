-- What an instruction asks of the code, and of the state of its place.
use Rattle.std.specs.Prelude.{◌≡◌, ℕ, ◌+◌, length, Bool, true, false, not, ◌&&◌, ◌||◌, Option, Some, None, nat_lt, if◌then◌else◌, slice_get}
use Rattle.std.proofs.Common.{eqb}
use Rattle.superstep_instructions.specs.declared.instr.Side.{Side}
use Rattle.superstep_instructions.specs.declared.instr.Side.TheVariants.{Uniform, Private}
use Rattle.superstep_instructions.specs.declared.instr.Instr.{Instr}
use Rattle.superstep_instructions.specs.declared.instr.Instr.TheVariants.{Mark, Set, Copy, Negate, Calculate, Decide, Not, CopyUniform}
use Rattle.superstep_instructions.specs.declared.instr.Instr.TheVariants.{Index}
use Rattle.superstep_instructions.specs.declared.instr.Instr.TheVariants.{Enter, Leave, Mask, Flip, Unmask, Ask, Put, Send, Reply, Vote}
use Rattle.superstep_instructions.specs.declared.instr.Instr.TheVariants.{Print}
use Rattle.superstep_instructions.specs.declared.instr.Instr.TheVariants.{Jump, JumpIfZero}
use Rattle.superstep_instructions.specs.Code.{SuperstepCode}
use Rattle.bsp_verify.specs.declared.state.State.{State}
use Rattle.bsp_verify.specs.declared.fault.Reason.{Reason}
use Rattle.bsp_verify.specs.declared.fault.Reason.TheVariants as Why
use Rattle.bsp_verify.specs.Control.{goes_on}

-- ---- registers

-- how many registers a side has
abbrev pub registers_of : SuperstepCode → Side → ℕ
registers_of code Uniform = code.uniform_registers
registers_of code Private = code.private_registers

abbrev pub is_register : SuperstepCode → Side → ℕ → Bool
is_register code side r = nat_lt r (registers_of code side)

-- all registers that it names are there
abbrev pub has_registers : SuperstepCode → Instr → Bool
has_registers code (Set side d n) = is_register code side d
has_registers code (Copy side d s) = is_register code side d && is_register code side s
has_registers code (Negate side d s q) = is_register code side d && is_register code side s
has_registers code (Calculate side o d a b q) = is_register code side d && is_register code side a && is_register code side b
has_registers code (Decide side o d a b) = is_register code side d && is_register code side a && is_register code side b
has_registers code (Not side d s) = is_register code side d && is_register code side s
has_registers code (CopyUniform d s) = is_register code Private d && is_register code Uniform s
has_registers code (Index d) = is_register code Private d
has_registers code (Enter a b q) = is_register code Uniform a && is_register code Uniform b
has_registers code (Mask s) = is_register code Private s
has_registers code (Ask side d c s q) = is_register code side d && is_register code side s
has_registers code (Put side c s v q) = is_register code side s && is_register code side v
has_registers code (Vote d) = is_register code Uniform d
has_registers code (Print s) = is_register code Uniform s
has_registers code (JumpIfZero s target) = is_register code Uniform s
has_registers code _ = true

-- ---- declarations

-- the declaration that it names is there
abbrev pub has_entry : SuperstepCode → Instr → Bool
has_entry code (Ask side d c s q) = nat_lt c (length code.layout)
has_entry code (Put side c s v q) = nat_lt c (length code.layout)
has_entry code _ = true

-- ---- targets

abbrev pub is_mark : Option Instr → Bool
is_mark (Some (Mark line)) = true
is_mark _ = false

-- a target is an instruction, and above the jump or a mark
abbrev pub is_target : SuperstepCode → ℕ → ℕ → Bool
is_target code place t = nat_lt t (length code.instructions) && (nat_lt place t || is_mark (slice_get code.instructions t))

abbrev pub has_target : SuperstepCode → ℕ → Instr → Bool
has_target code place (Jump target) = is_target code place target
has_target code place (JumpIfZero s target) = is_target code place target
has_target code place _ = true

-- ---- the range

-- registers of processors are there within a range
abbrev pub has_side : Side → State → Bool
has_side Uniform s = true
has_side Private s = s.entered

-- the shared memory is used by the program outside of a range, by the processors within one
abbrev pub is_acting : Side → State → Bool
is_acting Uniform s = not s.entered
is_acting Private s = s.entered

abbrev pub fits_mode : Instr → State → Bool
fits_mode (Set side d n) s = has_side side s
fits_mode (Copy side d r) s = has_side side s
fits_mode (Negate side d r q) s = has_side side s
fits_mode (Calculate side o d a b q) s = has_side side s
fits_mode (Decide side o d a b) s = has_side side s
fits_mode (Not side d r) s = has_side side s
fits_mode (CopyUniform d r) s = s.entered
fits_mode (Index d) s = s.entered
fits_mode (Enter a b q) s = not s.entered
fits_mode Leave s = s.entered
fits_mode (Mask r) s = s.entered
fits_mode Flip s = s.entered
fits_mode Unmask s = s.entered
fits_mode (Ask side d c r q) s = is_acting side s
fits_mode (Put side c r v q) s = is_acting side s
fits_mode (Vote d) s = s.entered
fits_mode _ s = true

-- ---- masks

-- at most 64, none below none, and none left at the end of the range
abbrev pub fits_masks : Instr → State → Bool
fits_masks (Mask r) s = nat_lt s.masks 64
fits_masks Flip s = nat_lt 0 s.masks
fits_masks Unmask s = nat_lt 0 s.masks
fits_masks Leave s = eqb s.masks 0
fits_masks _ s = true

-- ---- what is held and awaited

-- it works on registers alone
abbrev pub is_on_registers : Instr → Bool
is_on_registers (Set side d n) = true
is_on_registers (Copy side d s) = true
is_on_registers (Negate side d s q) = true
is_on_registers (Calculate side o d a b q) = true
is_on_registers (Decide side o d a b) = true
is_on_registers (Not side d s) = true
is_on_registers (CopyUniform d s) = true
is_on_registers (Index d) = true
is_on_registers _ = false

-- A reply where one is awaited, and there nothing else. Where reads are held, only what works on registers, up to eight reads, and
-- a send. One write at a time. No vote while anything is held.
abbrev pub fits_exchange : Instr → State → Bool
fits_exchange Reply s = s.awaits
fits_exchange Send s = not s.awaits
fits_exchange (Ask side d c r q) s = not s.awaits && nat_lt s.asks 8
fits_exchange (Put side c r v q) s = not s.awaits && (eqb s.asks 0 && not s.put)
fits_exchange (Vote d) s = not s.awaits && (eqb s.asks 0 && not s.put)
fits_exchange i s = not s.awaits && (is_on_registers i || eqb s.asks 0)

-- ---- the end

-- the last instruction doesn't go on
abbrev pub stays_within : SuperstepCode → ℕ → Instr → Bool
stays_within code place i = not (goes_on i) || nat_lt (place + 1) (length code.instructions)

-- ---- all of these

-- an instruction may stand at a place with this state
pub record IsAllowed (code : SuperstepCode) (place : ℕ) (i : Instr) (s : State) : Type 0 where
  pub registers : has_registers code i ≡ true
  pub entry : has_entry code i ≡ true
  pub target : has_target code place i ≡ true
  pub mode : fits_mode i s ≡ true
  pub masks : fits_masks i s ≡ true
  pub exchange : fits_exchange i s ≡ true
  pub within : stays_within code place i ≡ true

-- the first reason against it
abbrev pub first_reason : SuperstepCode → ℕ → Instr → State → Option Reason
first_reason code place i s =
    if not (has_registers code i) then Some Why.Register else
    if not (has_entry code i) then Some Why.Entry else
    if not (has_target code place i) then Some Why.Target else
    if not (fits_mode i s) then Some Why.Mode else
    if not (fits_masks i s) then Some Why.Mask else
    if not (fits_exchange i s) then Some Why.Exchange else
    if not (stays_within code place i) then Some Why.End else None
