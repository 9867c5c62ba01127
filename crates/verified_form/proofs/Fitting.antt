-- Instructions that don't jump, judged without their places.
use Rattle.std.proofs.Common.{◌≡◌, ℕ, ◌+◌, ◌<◌, List, [], ◌∷◌, ◌++◌, length, Bool, true, false, Some, refl, sym, ap, ◌∙◌, subst}
use Rattle.std.proofs.Common.{arith, length-append}
use Rattle.std.proofs.lemmas.List.{append-nil}
use Rattle.std.specs.Prelude.{slice_get}
use Rattle.superstep_instructions.specs.declared.instr.Side.{Side}
use Rattle.superstep_instructions.specs.declared.instr.Side.TheVariants.{Uniform, Private}
use Rattle.superstep_instructions.specs.declared.instr.Instr.{Instr}
use Rattle.superstep_instructions.specs.declared.instr.Instr.TheVariants.{Jump, JumpIfZero, Halt}
use Rattle.superstep_instructions.specs.Code.{SuperstepCode}
use Rattle.bsp_verify.specs.declared.state.State.{State}
use Rattle.bsp_verify.specs.States.{after}
use Rattle.bsp_verify.specs.Control.{goes_on}
use Rattle.bsp_verify.specs.Judging.{has_registers, has_entry, has_target, has_side, is_acting, fits_mode, fits_masks, fits_exchange}
use Rattle.bsp_verify.specs.Stretches.{behind, scan_of, Stands, JumpsTo, IsStretch}
use Rattle.bsp_verify.proofs.StretchLemmas.{parts_stand, what_stands_is_there, stretches_compose, stretches_leave}

-- ---- the states between instructions

-- the side whose reads and writes are made there: the program's outside of a range, the processors' within one
abbrev pub is_inside : Side → Bool
is_inside Uniform = false
is_inside Private = true

-- under so many masks, with so many reads held, and a write or none; no reply is awaited
abbrev pub asking : Side → (masks asks : ℕ) → Bool → State
asking side masks asks held = record { entered = is_inside side; masks = masks; asks = asks; put = held; awaits = false }

-- no read is held
abbrev pub resting : Side → (masks : ℕ) → Bool → State
resting side masks held = asking side masks 0 held

pub has_own_side : (side : Side) (masks asks : ℕ) (held : Bool) → has_side side (asking side masks asks held) ≡ true
has_own_side Uniform masks asks held = refl
has_own_side Private masks asks held = refl

pub acts_on_own_side : (side : Side) (masks asks : ℕ) (held : Bool) → is_acting side (asking side masks asks held) ≡ true
acts_on_own_side Uniform masks asks held = refl
acts_on_own_side Private masks asks held = refl

-- ---- stretches without jumps

-- neither a jump nor a halt
abbrev pub goes_along : Instr → Bool
goes_along (Jump target) = false
goes_along (JumpIfZero r target) = false
goes_along Halt = false
goes_along i = true

-- what is asked of such an instruction with this state, but for its registers
pub record IsFit (code : SuperstepCode) (i : Instr) (s : State) : Type 0 where
  pub along : goes_along i ≡ true
  pub entry : has_entry code i ≡ true
  pub mode : fits_mode i s ≡ true
  pub masks : fits_masks i s ≡ true
  pub exchange : fits_exchange i s ≡ true

-- entered with the state s, and left with m
abbrev pub Fits : SuperstepCode → State → List Instr → State → Type 0
Fits code s [] m = s ≡ m
Fits code s (i ∷ is) m = IsFit code i s × Fits code (after i s) is m

pub fits_join : (code : SuperstepCode) (s m e : State) (xs ys : List Instr) → Fits code s xs m → Fits code m ys e → Fits code s (xs ++ ys) e
fits_join code s m e [] ys a b = subst (λ (r : State). Fits code r ys e) (sym a) b
fits_join code s m e (x ∷ xs) ys a b = (a.0, fits_join code (after x s) m e xs ys a.1 b)

pub fits_to : (code : SuperstepCode) (s m e : State) (is : List Instr) → m ≡ e → Fits code s is m → Fits code s is e
fits_to code s m e is h a = subst (λ (r : State). Fits code s is r) h a

-- ---- where they stand

-- each instruction of the code has its registers
abbrev pub HasRegisters : SuperstepCode → Type 0
HasRegisters code = (k : ℕ) (i : Instr) → slice_get code.instructions k ≡ Some i → has_registers code i ≡ true

-- what stands there first, and its state
pub found : (code : SuperstepCode) (at : ℕ) (s : State) (i : Instr) (is : List Instr) → Stands code at s (i ∷ is) →
    slice_get code.instructions at ≡ Some i
found code at s i is h =
    ap (slice_get code.instructions) (let e : at ≡ at + 0 = omega arith in e) ∙ (what_stands_is_there code at s (i ∷ is) h 0).0
    (omega arith)

pub scanned : (code : SuperstepCode) (at : ℕ) (s : State) (is : List Instr) → Stands code at s is → scan_of code at ≡ s
scanned code at s is h =
    ap (scan_of code) (let e : at ≡ at + 0 = omega arith in e) ∙ (what_stands_is_there code at s is h 0).1 (omega arith)

-- the same place and state, written otherwise
pub stands_as : (code : SuperstepCode) (at to : ℕ) (s m : State) (is : List Instr) → at ≡ to → s ≡ m → Stands code at s is →
    Stands code to m is
stands_as code at to s m is e f h =
    subst (λ (r : State). Stands code to r is) f (subst (λ k. Stands code k s is) e h)

-- the state behind it
pub scanned_behind : (code : SuperstepCode) (at : ℕ) (s : State) (is : List Instr) → Stands code at s is →
    scan_of code (at + length is) ≡ behind is s
scanned_behind code at s is h =
    scanned code (at + length is) (behind is s) []
    ((parts_stand code).1 at s is [] (subst (λ (l : List Instr). Stands code at s l) (sym (append-nil is)) h)).1

no_jump : (i : Instr) (t : ℕ) → goes_along i ≡ true → JumpsTo i t → ⊥
no_jump (Jump target) t h j = cc
no_jump (JumpIfZero r target) t h j = cc
no_jump i t h j = j

no_target : (code : SuperstepCode) (at : ℕ) (i : Instr) → goes_along i ≡ true → has_target code at i ≡ true
no_target code at (Jump target) h = cc
no_target code at (JumpIfZero r target) h = cc
no_target code at i h = refl

no_end : (i : Instr) → goes_along i ≡ true → goes_on i ≡ false → ⊥
no_end (Jump target) h e = cc
no_end Halt h e = cc
no_end i h e = cc

-- what fits is judged wherever it stands
pub stretch_of : (code : SuperstepCode) → HasRegisters code → (at : ℕ) (s m : State) (is : List Instr) → Stands code at s is →
    Fits code s is m → IsStretch code at s is m
stretch_of code all at s m [] h a = a
stretch_of code all at s m (i ∷ is) h a = (
  record {
    registers = all at i (found code at s i is h);
    entry = a.0.entry;
    target = no_target code at i a.0.along;
    mode = a.0.mode;
    masks = a.0.masks;
    exchange = a.0.exchange;
    joins = λ t j. absurd (no_jump i t a.0.along j);
    followed = λ e l. absurd (no_end i a.0.along e);
  },
  stretch_of code all (at + 1) (after i s) m is ((parts_stand code).1 at s (i ∷ []) is h).1 a.1,
)

-- ---- stretches with jumps

-- judged where it stands, with something behind it
abbrev pub Judged : SuperstepCode → ℕ → State → List Instr → State → Type 0
Judged code at s is m = Stands code at s is → at + length is < length code.instructions → IsStretch code at s is m

pub judged_fits : (code : SuperstepCode) → HasRegisters code → (at : ℕ) (s m : State) (is : List Instr) → Fits code s is m →
    Judged code at s is m
judged_fits code all at s m is a h l = stretch_of code all at s m is h a

pub judged_at : (code : SuperstepCode) (at to : ℕ) (s m : State) (is : List Instr) → at ≡ to → Judged code at s is m → Judged code to s is m
judged_at code at to s m is e a = subst (λ k. Judged code k s is m) e a

pub judged_join : (code : SuperstepCode) (at : ℕ) (s m e : State) (xs ys : List Instr) → Judged code at s xs m →
    Judged code (at + length xs) m ys e → Judged code at s (xs ++ ys) e
judged_join code at s m e xs ys a b h l =
    let parts = (parts_stand code).1 at s xs ys h in
    let n = length-append xs ys in
    let first : IsStretch code at s xs m = a parts.0 (omega (arith, l, n)) in
    let left : behind xs s ≡ m = sym (stretches_leave code at s m xs first) in
    let rest = stands_as code (at + length xs) (at + length xs) (behind xs s) m ys refl left parts.1 in
    stretches_compose code at s m e xs ys first (b rest (omega (arith, l, n)))
