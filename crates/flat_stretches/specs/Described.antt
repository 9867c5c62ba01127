-- What the verifier's states of places say of runs that come there, and that stretches which it has judged are fine.
use Rattle.std.specs.Prelude.{◌≡◌, ℕ, ◌<◌, List, length, Bool, true, false, nat_lt}
use Rattle.std.specs.List.{AllByRecursion}
use Rattle.superstep_instructions.specs.declared.instr.Instr.{Instr}
use Rattle.superstep_instructions.specs.declared.instr.Instr.TheVariants.{Mark, Jump, JumpIfZero, Halt}
use Rattle.superstep_instructions.specs.Code.{SuperstepCode}
use Rattle.superstep_machine.specs.Run.{is_held}
use Rattle.bsp_verify.specs.declared.state.State.{State}
use Rattle.bsp_verify.specs.WellFormed.{AreMet}
use Rattle.bsp_verify.specs.Stretches.{behind, Stands, IsStretch}
use Rattle.flat_machine.specs.Flat.{Flat}
use Rattle.flat_machine.specs.ByInstructions.{going}
use Rattle.flat_stretches.specs.Applied.{AsksNone}
use Rattle.flat_stretches.specs.Along.{Run, Comes}
use Rattle.flat_stretches.specs.Folds.{Stand, acts_at_once, IsFine, MayHold}

-- So many reads are held, a write is held or not, and answers are awaited or not. Where a write isn't held nothing is for any cell; where
-- answers are awaited nothing is held; and where no read is held and no answer awaited, none is by any processor.
pub record IsAsSaid (s : State) (f : Flat) : Type 0 where
  pub asks : length f.uniform.asks ≡ s.asks
  pub put : is_held f.uniform.put ≡ s.put
  pub awaited : nat_lt 0 (length f.uniform.awaited) ≡ s.awaits
  pub holds : MayHold s.put f
  pub alone : s.awaits ≡ true → (s.asks ≡ 0) × (s.put ≡ false)
  pub rests : s.asks ≡ 0 → s.awaits ≡ false → AsksNone f

-- whichever states the code can be met with
abbrev pub PlacesAreAsSaid : Type 0
PlacesAreAsSaid = (t : Run) (given : ℕ → State) → 0 < length t.code.instructions → AreMet t.code (length t.code.instructions) given →
    (place : ℕ) (f : Flat) (spent : ℕ) → Comes t (going place f) spent → IsAsSaid (given place) f

-- no mark, jump or halt
abbrev pub is_straight : Instr → Bool
is_straight (Mark line) = false
is_straight (Jump target) = false
is_straight (JumpIfZero r target) = false
is_straight Halt = false
is_straight i = true

-- a judged stretch of such instructions is fine, and holds a write before and behind as its states say
abbrev pub JudgedAreFine : Type 0
JudgedAreFine = (code : SuperstepCode) (at : ℕ) (s m : State) (is : List Instr) → (s.awaits ≡ true → s.put ≡ false) →
    IsStretch code at s is m → AllByRecursion (λ (i : Instr). is_straight i ≡ true) is → IsFine s.put is m.put

-- ---- and where a stretch stands, its instructions are

abbrev pub WhatStandsIsAt : Type 0
WhatStandsIsAt = (t : Run) (at : ℕ) (s : State) (is : List Instr) → Stands t.code at s is → Stand t at is

-- and a fold holds as many reads as the states say
abbrev pub FoldsHoldReads : Type 0
FoldsHoldReads = (code : SuperstepCode) (is : List Instr) (s : State) (f : Flat) → length f.uniform.asks ≡ s.asks →
    length (acts_at_once code is f).uniform.asks ≡ (behind is s).asks
