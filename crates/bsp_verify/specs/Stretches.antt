-- Stretches of code: what is judged of each for itself, and how the judgements of several give that of the whole.
use Rattle.std.specs.Prelude.{◌≡◌, ℕ, ◌+◌, ◌-◌, ◌<◌, ◌≤◌, List, [], ◌∷◌, ◌++◌, length, take, true, false, Some, slice_get}
use Rattle.superstep_instructions.specs.declared.instr.Instr.{Instr}
use Rattle.superstep_instructions.specs.declared.instr.Instr.TheVariants.{Jump, JumpIfZero}
use Rattle.superstep_instructions.specs.Code.{SuperstepCode}
use Rattle.bsp_verify.specs.declared.state.State.{State}
use Rattle.bsp_verify.specs.States.{opening, after}
use Rattle.bsp_verify.specs.Control.{goes_on, IsReached}
use Rattle.bsp_verify.specs.Judging.{has_registers, has_entry, has_target, fits_mode, fits_masks, fits_exchange}
use Rattle.bsp_verify.specs.WellFormed.{AreMet}

-- ---- the scan of code

-- the state behind some instructions, one after the other as they stand, from a state before them
abbrev pub behind : List Instr → State → State
behind [] s = s
behind (i ∷ is) s = behind is (after i s)

-- it gives each place the state that the instructions below it leave
abbrev pub scan_of : SuperstepCode → ℕ → State
scan_of code k = behind (take k code.instructions) opening

-- The instructions `is` stand in the code from place `at` on, and the scan comes there with the state s.
pub record Stands (code : SuperstepCode) (at : ℕ) (s : State) (is : List Instr) : Type 0 where
  pub before : List Instr
  pub rest : List Instr
  pub whole : before ++ (is ++ rest) ≡ code.instructions
  pub from : length before ≡ at
  pub state : behind before opening ≡ s

-- ---- the judgement of a stretch

-- an instruction jumps to t
abbrev pub JumpsTo : Instr → ℕ → Type 0
JumpsTo (Jump target) t = t ≡ target
JumpsTo (JumpIfZero r target) t = t ≡ target
JumpsTo _ t = ⊥

-- What is asked of an instruction that stands at a place, with this state: all that the verifier asks of it but that it isn't the last one
-- and goes on; that what it jumps to has its state; and that where it doesn't go on itself, a lower jump leads to the next place.
pub record IsPlaced (code : SuperstepCode) (place : ℕ) (i : Instr) (s : State) : Type 0 where
  pub registers : has_registers code i ≡ true
  pub entry : has_entry code i ≡ true
  pub target : has_target code place i ≡ true
  pub mode : fits_mode i s ≡ true
  pub masks : fits_masks i s ≡ true
  pub exchange : fits_exchange i s ≡ true
  pub joins : (t : ℕ) → JumpsTo i t → scan_of code t ≡ s
  pub followed : goes_on i ≡ false → place + 1 < length code.instructions → IsReached code (place + 1)

-- The instructions `is`, from place `at` on, are entered with the state s, and left with m: each may stand where it does with the state
-- that those before it leave.
abbrev pub IsStretch : SuperstepCode → ℕ → State → List Instr → State → Type 0
IsStretch code at s [] m = s ≡ m
IsStretch code at s (i ∷ is) m = IsPlaced code at i s × IsStretch code (at + 1) (after i s) is m

-- ---- laws

-- Two stretches, the second entered with the state that the first leaves, are one.
abbrev pub StretchesCompose : Type 0
StretchesCompose = (code : SuperstepCode) (at : ℕ) (s m e : State) (xs ys : List Instr) →
    IsStretch code at s xs m → IsStretch code (at + length xs) m ys e → IsStretch code at s (xs ++ ys) e

-- A stretch leaves the state that is behind its instructions, and no other.
abbrev pub StretchesLeave : Type 0
StretchesLeave = (code : SuperstepCode) (at : ℕ) (s m : State) (is : List Instr) → IsStretch code at s is m → m ≡ behind is s

-- the last one of some instructions doesn't go on
abbrev pub IsClosed : List Instr → Type 0
IsClosed is = (i : Instr) → slice_get is (length is - 1) ≡ Some i → goes_on i ≡ false

-- Code that is one stretch, and closed, is met by the scan; so it is well formed.
abbrev pub AStretchIsCode : Type 0
AStretchIsCode = (code : SuperstepCode) (m : State) → 0 < length code.instructions → IsClosed code.instructions →
    IsStretch code 0 opening code.instructions m → AreMet code (length code.instructions) (scan_of code)

-- ---- where a stretch stands

-- The whole stands in the code; of what stands both parts do ..
abbrev pub PartsStand : Type 0
PartsStand = (code : SuperstepCode) →
    Stands code 0 opening code.instructions
    × ((at : ℕ) (s : State) (xs ys : List Instr) → Stands code at s (xs ++ ys) →
    Stands code at s xs × Stands code (at + length xs) (behind xs s) ys)

-- .. and it has its instructions there, and its places, the one behind it too, the states that the instructions leave one after the other.
abbrev pub WhatStandsIsThere : Type 0
WhatStandsIsThere = (code : SuperstepCode) (at : ℕ) (s : State) (is : List Instr) → Stands code at s is → (k : ℕ) →
    (k < length is → slice_get code.instructions (at + k) ≡ slice_get is k) × (k ≤ length is → scan_of code (at + k) ≡ behind (take k is) s)
