-- The processors that are active inside a range: frames of masks, and the flags of loops.
use Rattle.std.specs.Prelude.{◌≡◌, ℕ, ◌+◌, ◌<◌, ◌≤◌, List, [], ◌∷◌, length, Bool, true, false, not, ◌&&◌, pos, nat_le, Option, None}
use Rattle.std.specs.List.{AllByRecursion, filter, range_with_len}
use Rattle.pram_values.specs.Truth.{is_nonzero}
use Rattle.superstep_instructions.specs.declared.instr.Side.TheVariants.{Private}
use Rattle.superstep_instructions.specs.declared.instr.Instr.{Instr}
use Rattle.superstep_instructions.specs.declared.instr.Instr.TheVariants.{Set, Copy, Negate, Calculate, Decide, Not, CopyUniform, Index}
use Rattle.superstep_instructions.specs.declared.instr.Instr.TheVariants.{Enter}
use Rattle.superstep_instructions.specs.declared.instr.Instr.TheVariants.{Leave, Mask, Flip, Unmask, Ask}
use Rattle.superstep_instructions.specs.Code.{SuperstepCode}
use Rattle.superstep_machine.specs.Parts.{Registers, zeros, Read, PrivatePart}
use Rattle.superstep_machine.specs.Steps.{under, is_active}
use Rattle.flat_machine.specs.Flat.{Flat, after_instr, after_vote}
use Rattle.exchange_words.specs.Accesses.{active}
use Rattle.flat_stretches.specs.Folds.{acts, acts_at_once}

-- What a statement inside a range finds and leaves: how many processors there are, the masks of each, the last one first, and what its
-- registers hold, as far as they are flags of open loops.
pub record Frame : Type 0 where
  pub width : ℕ
  pub masks : ℕ → List Bool
  pub flags : ℕ → Registers

-- its set: the processors that are active under the masks
abbrev pub present : Frame → List ℕ
present fr = filter (λ v. under (fr.masks v)) (range_with_len 0 fr.width)

-- A state stands in a frame; the flags are the registers from `first` on, below `base`.
pub record StandsIn (first base : ℕ) (fr : Frame) (f : Flat) : Type 0 where
  pub width : f.uniform.width ≡ fr.width
  pub masks : (v : ℕ) → (f.own v).masks ≡ fr.masks v
  pub flags : (v r : ℕ) → first ≤ r → r < base → (f.own v).registers r ≡ fr.flags v r

-- whether register r of a processor is true
abbrev pub is_true : ℕ → Flat → ℕ → Bool
is_true r f v = is_nonzero ((f.own v).registers r)

-- its set has as many members as there are active processors
abbrev pub PresentAreActive : Type 0
PresentAreActive = (first base : ℕ) (fr : Frame) (f : Flat) → StandsIn first base fr f → active f ≡ length (present fr)

-- ---- masks

-- one more mask: those of the set that pass a test
abbrev pub narrowed : (ℕ → Bool) → Frame → Frame
narrowed t fr = record fr { masks = λ v. (under (fr.masks v) && t v) ∷ fr.masks v }

abbrev pub SetsNarrow : Type 0
SetsNarrow = (t : ℕ → Bool) (fr : Frame) → present (narrowed t fr) ≡ filter t (present fr)

-- no masks, and no flags
abbrev pub everybody : ℕ → Frame
everybody n = record { width = n; masks = λ v. []; flags = λ v. zeros }

abbrev pub EverybodyIsPresent : Type 0
EverybodyIsPresent = (n : ℕ) → present (everybody n) ≡ range_with_len 0 n

abbrev pub RangesBegin : Type 0
RangesBegin = (code : SuperstepCode) (first base a b q : ℕ) (f : Flat) →
    let g = after_instr code (Enter a b q) f in StandsIn first base (everybody g.uniform.width) g

abbrev pub MasksNarrow : Type 0
MasksNarrow = (code : SuperstepCode) (first base r : ℕ) (fr : Frame) (f : Flat) → StandsIn first base fr f →
    StandsIn first base (narrowed (is_true r f) fr) (after_instr code (Mask r) f)

-- the others of the set below
abbrev pub FlipsTurn : Type 0
FlipsTurn = (code : SuperstepCode) (first base : ℕ) (t : ℕ → Bool) (fr : Frame) (f : Flat) → StandsIn first base (narrowed t fr) f →
    StandsIn first base (narrowed (λ v. not (t v)) fr) (after_instr code Flip f)

abbrev pub UnmasksWiden : Type 0
UnmasksWiden = (code : SuperstepCode) (first base : ℕ) (t : ℕ → Bool) (fr : Frame) (f : Flat) → StandsIn first base (narrowed t fr) f →
    StandsIn first base fr (after_instr code Unmask f)

abbrev pub is_some : List ℕ → Bool
is_some [] = false
is_some (v ∷ vs) = true

-- a vote says whether the set has a member
abbrev pub VotesSay : Type 0
VotesSay = (first base d : ℕ) (fr : Frame) (f : Flat) → StandsIn first base fr f →
    is_nonzero ((after_vote d f).uniform.registers d) ≡ is_some (present fr)

-- ---- stretches that set no flag

-- it doesn't change the range or masks, and sets no register of processors below `base`
abbrev pub is_above : ℕ → Instr → Bool
is_above base (Set Private d x) = nat_le base d
is_above base (Copy Private d s) = nat_le base d
is_above base (Negate Private d s q) = nat_le base d
is_above base (Calculate Private o d a b q) = nat_le base d
is_above base (Decide Private o d a b) = nat_le base d
is_above base (Not Private d s) = nat_le base d
is_above base (CopyUniform d s) = nat_le base d
is_above base (Index d) = nat_le base d
is_above base (Ask side d c s q) = nat_le base d
is_above base (Enter a b q) = false
is_above base Leave = false
is_above base (Mask r) = false
is_above base Flip = false
is_above base Unmask = false
is_above base i = true

-- nor will the answers that are to come
pub record AsksAbove (base : ℕ) (f : Flat) : Type 0 where
  pub asks : AllByRecursion (λ (x : Read). base ≤ x.destination) f.uniform.asks
  pub awaited : AllByRecursion (λ (x : Read). base ≤ x.destination) f.uniform.awaited

pub record StaysIn (first base : ℕ) (fr : Frame) (f : Flat) : Type 0 where
  pub stands : StandsIn first base fr f
  pub above : AsksAbove base f

abbrev pub FoldsStay : Type 0
FoldsStay = (code : SuperstepCode) (first base : ℕ) (is : List Instr) (fr : Frame) (f : Flat) →
    AllByRecursion (λ (i : Instr). is_above base i ≡ true) is → StaysIn first base fr f → StaysIn first base fr (acts code is f)

-- also with each write applied at once
abbrev pub FoldsAtOnceStay : Type 0
FoldsAtOnceStay = (code : SuperstepCode) (first base : ℕ) (is : List Instr) (fr : Frame) (f : Flat) →
    AllByRecursion (λ (i : Instr). is_above base i ≡ true) is → StaysIn first base fr f → StaysIn first base fr (acts_at_once code is f)

-- ---- loops, whose flag is register `base`

-- what the registers of processors hold
abbrev pub held_in : Flat → ℕ → Registers
held_in f v = (f.own v).registers

-- the flags of the loops around are those of the frame
abbrev pub Keeps : (first base : ℕ) → Frame → (ℕ → Registers) → Type 0
Keeps first base fr registers = (v r : ℕ) → first ≤ r → r < base → registers v r ≡ fr.flags v r

-- a loop's frame: of the set below, those with the flag
abbrev pub looping : ℕ → (ℕ → Registers) → Frame → Frame
looping flag registers fr = record {
  width = fr.width;
  masks = λ v. (under (fr.masks v) && is_nonzero (registers v flag)) ∷ fr.masks v;
  flags = registers;
}

-- the state of a loop, and that the frame around it is known
pub record IsLooping (first base : ℕ) (fr : Frame) (registers : ℕ → Registers) (f : Flat) : Type 0 where
  pub stands : StandsIn first (base + 1) (looping base registers fr) f
  pub keeps : Keeps first base fr registers

-- all of the set go in
abbrev pub opened : SuperstepCode → ℕ → Flat → Flat
opened code flag f = after_instr code (Mask flag) (after_instr code (Set Private flag (pos 1)) f)

pub record HasOpened (first base : ℕ) (fr : Frame) (g : Flat) : Type 0 where
  pub loops : IsLooping first base fr (held_in g) g
  pub all : present (looping base (held_in g) fr) ≡ present fr

abbrev pub LoopsOpen : Type 0
LoopsOpen = (code : SuperstepCode) (first base : ℕ) (fr : Frame) (f : Flat) → StandsIn first base fr f →
    HasOpened first base fr (opened code base f)

-- those stay whose test, in register r, is true
abbrev pub turned : SuperstepCode → (flag r : ℕ) → Flat → Flat
turned code flag r f = after_instr code (Mask flag) (after_instr code Unmask (after_instr code (Copy Private flag r) f))

pub record HasTurned (first base : ℕ) (fr : Frame) (before : List ℕ) (t : ℕ → Bool) (g : Flat) : Type 0 where
  pub loops : IsLooping first base fr (held_in g) g
  pub those : present (looping base (held_in g) fr) ≡ filter t before

abbrev pub LoopsTurn : Type 0
LoopsTurn = (code : SuperstepCode) (first base r : ℕ) → first ≤ base → (fr : Frame) (registers : ℕ → Registers) (f : Flat) →
    IsLooping first base fr registers f →
    HasTurned first base fr (present (looping base registers fr)) (is_true r f) (turned code base r f)

-- behind the loop the set below is present again
abbrev pub LoopsClose : Type 0
LoopsClose = (code : SuperstepCode) (first base : ℕ) (fr : Frame) (registers : ℕ → Registers) (f : Flat) →
    IsLooping first base fr registers f → StandsIn first base fr (after_instr code Unmask f)

-- ---- processors that aren't active

-- it asks for no cell, and awaits none
pub record IsIdle (x : PrivatePart) : Type 0 where
  pub inactive : is_active x ≡ false
  pub asks : AllByRecursion (λ (c : Option ℕ). c ≡ None) x.asks
  pub awaited : AllByRecursion (λ (c : Option ℕ). c ≡ None) x.awaited

abbrev pub keeps_masks : Instr → Bool
keeps_masks (Enter a b q) = false
keeps_masks Leave = false
keeps_masks (Mask r) = false
keeps_masks Flip = false
keeps_masks Unmask = false
keeps_masks i = true

-- an idle processor stays idle
pub record StaysIdle (x y : PrivatePart) : Type 0 where
  pub idle : IsIdle y
  pub registers : y.registers ≡ x.registers

-- with all its registers, while no mask changes
abbrev pub IdleStay : Type 0
IdleStay = (code : SuperstepCode) (is : List Instr) (f : Flat) (v : ℕ) → AllByRecursion (λ (i : Instr). keeps_masks i ≡ true) is →
    IsIdle (f.own v) → StaysIdle (f.own v) ((acts_at_once code is f).own v)
