-- The straight parts of statements: what stands behind a mark, up to where control parts or the statement ends.
use Rattle.std.specs.Prelude.{◌≡◌, ℕ, ◌+◌, Bool, true, false, not, ◌&&◌, List, [], ◌∷◌, ◌++◌}
use Rattle.std.specs.List.{AllByRecursion}
use Rattle.superstep_instructions.specs.declared.instr.Side.{Side}
use Rattle.superstep_instructions.specs.declared.instr.Side.TheVariants.{Uniform, Private}
use Rattle.superstep_instructions.specs.declared.instr.Arithmetic.TheVariants as arithmetic
use Rattle.superstep_instructions.specs.declared.instr.Truth.TheVariants as truth
use Rattle.superstep_instructions.specs.declared.instr.Instr.{Instr}
use Rattle.superstep_instructions.specs.declared.instr.Instr.TheVariants.{Mark, Copy, Calculate, Decide, Index, Enter, Mask, Unmask, Put}
use Rattle.superstep_instructions.specs.declared.instr.Instr.TheVariants.{Send}
use Rattle.superstep_instructions.specs.declared.instr.Instr.TheVariants.{Vote, Print}
use Rattle.flat_stretches.specs.Folds.{IsFine}
use Rattle.flat_stretches.specs.Leaving.{evaluates}
use Rattle.flat_stretches.specs.Frames.{is_above}
use Rattle.plain_form.specs.Registers.{variable, turn, high, more, behind_turns, index}
use Rattle.plain_form.specs.Formulas.{Formula, Pair, positions}
use Rattle.plain_form.specs.Groups.{only, evaluated, value_at, first_at, second_at}
use Rattle.plain_form.specs.Shapes as shapes
use Rattle.plain_form.specs.Shapes.{still, waits}

-- what a statement evaluates
abbrev pub evaluation : (keep held : Bool) → Side → ℕ → Formula → List Instr
evaluation keep held s base f = only (keep && not held) (Send ∷ []) ++ evaluated s base f

-- a value for a variable or a local
abbrev pub getting : (keep held : Bool) → Side → ℕ → Formula → ℕ → List Instr
getting keep held s base f destination = evaluation keep held s base f ++ Copy s destination (value_at s base f) ∷ []

-- a write, which is held behind it
abbrev pub writing : (keep held : Bool) → Side → ℕ → ℕ → Formula → Formula → List Instr
writing keep held s base entry f g =
    evaluation keep held s base (Pair f g) ++ Put s entry (first_at s base f g) (second_at s base f g) (positions f + positions g + 1) ∷ []

abbrev pub printing : (keep held : Bool) → ℕ → Formula → List Instr
printing keep held base f = evaluation keep held Uniform base f ++ Print (value_at Uniform base f) ∷ []

-- the test of an `if` outside pardo, behind which nothing is held
abbrev pub testing : (keep held : Bool) → ℕ → Formula → List Instr
testing keep held free f = evaluation keep held Uniform free f ++ shapes.flush (still held f)

-- the bounds of a `for`, and whether there is a first turn
abbrev pub bounding : (keep held : Bool) → ℕ → Formula → Formula → List Instr
bounding keep held free f g =
    let base = behind_turns free in
    evaluation keep held Uniform base (Pair f g)
    ++ (Copy Uniform (turn free) (first_at Uniform base f g) ∷ Copy Uniform (high free) (second_at Uniform base f g) ∷ [])
    ++ shapes.flush (still held (Pair f g))
    ++ (Decide Uniform truth.AtMost (more free) (turn free) (high free) ∷ [])

-- a setting of its variable, and the step to the next turn
abbrev pub stepping : Bool → ℕ → ℕ → List Instr
stepping keep free x =
    only (keep && not false) (Send ∷ []) ++ Copy Uniform (variable x) (turn free) ∷ Decide Uniform truth.Less (more free) (turn free)
    (high free) ∷ Calculate Uniform arithmetic.Add (turn free) (turn free) (more free) 0 ∷ []

-- the beginning of a pardo
abbrev pub entering : (keep held : Bool) → ℕ → Formula → Formula → List Instr
entering keep held base f g =
    evaluation keep held Uniform base (Pair f g)
    ++ Enter (first_at Uniform base f g) (second_at Uniform base f g) (positions f + positions g + 1) ∷ Index index ∷ []

-- the test of an `if` inside pardo
abbrev pub masking : (keep held : Bool) → ℕ → Formula → List Instr
masking keep held base f = evaluation keep held Private base f ++ Mask (value_at Private base f) ∷ []

-- the test of a `while` inside pardo
abbrev pub flagging : Bool → (vote flag base : ℕ) → Formula → List Instr
flagging keep vote flag base f =
    evaluation keep false Private base f ++ Copy Private flag (value_at Private base f) ∷ Unmask ∷ Mask flag ∷ Vote vote ∷ []

-- ---- where their marks stand

-- A mark, and such a stretch: all of it but a send before the mark of a write.
pub record MarksComeFirst : Type 0 where
  pub counted : (keep held : Bool) (line : ℕ) (s : Side) (base : ℕ) (f : Formula) →
      shapes.counted keep held line s base f ≡ Mark line ∷ evaluation keep held s base f
  pub gets : (keep held : Bool) (line : ℕ) (s : Side) (base : ℕ) (f : Formula) (destination : ℕ) →
      shapes.gets keep held line s base f destination ≡ Mark line ∷ getting keep held s base f destination
  pub writes : (keep held : Bool) (line : ℕ) (s : Side) (base entry : ℕ) (f g : Formula) →
      shapes.writes keep held line s base entry f g
      ≡ shapes.flush (still held (Pair f g)) ++ Mark line ∷ writing keep (waits held (Pair f g)) s base entry f g
  pub prints : (keep held : Bool) (line base : ℕ) (f : Formula) →
      shapes.prints keep held line base f ≡ Mark line ∷ printing keep held base f
  pub test : (keep held : Bool) (line free : ℕ) (f : Formula) →
      shapes.counted keep held line Uniform free f ++ shapes.flush (still held f) ≡ Mark line ∷ testing keep held free f
  pub bounds : (keep held : Bool) (line free : ℕ) (f g : Formula) →
      shapes.bounds keep held line free f g ≡ Mark line ∷ bounding keep held free f g
  pub setting : (keep : Bool) (line free x : ℕ) → shapes.setting keep line free x ≡ Mark line ∷ stepping keep free x
  pub entered : (keep held : Bool) (line base : ℕ) (f g : Formula) →
      shapes.entered keep held line base f g ≡ Mark line ∷ entering keep held base f g
  pub mask : (keep held : Bool) (line base : ℕ) (f : Formula) →
      shapes.counted keep held line Private base f ++ Mask (value_at Private base f) ∷ [] ≡ Mark line ∷ masking keep held base f
  pub flags : (keep : Bool) (line vote flag base : ℕ) (f : Formula) →
      shapes.flags keep line vote flag base f ≡ Mark line ∷ flagging keep vote flag base f

-- ---- whether a write is held

-- All of them are fine: before and behind each a write may be held, or not.
pub record StraightPartsAreFine : Type 0 where
  pub evaluated : (keep held : Bool) (s : Side) (base : ℕ) (f : Formula) → IsFine held (evaluation keep held s base f) (still held f)
  pub got : (keep held : Bool) (s : Side) (base : ℕ) (f : Formula) (destination : ℕ) →
      IsFine held (getting keep held s base f destination) (still held f)
  -- a write that is held goes with its reads
  pub written : (keep held : Bool) (s : Side) (base entry : ℕ) (f g : Formula) →
      IsFine (waits held (Pair f g)) (writing keep (waits held (Pair f g)) s base entry f g) true
  pub printed : (keep held : Bool) (base : ℕ) (f : Formula) → IsFine held (printing keep held base f) (still held f)
  pub tested : (keep held : Bool) (free : ℕ) (f : Formula) → IsFine held (testing keep held free f) false
  pub bounded : (keep held : Bool) (free : ℕ) (f g : Formula) → IsFine held (bounding keep held free f g) false
  pub stepped : (keep : Bool) (free x : ℕ) → IsFine false (stepping keep free x) false
  pub entered : (keep held : Bool) (base : ℕ) (f g : Formula) → IsFine held (entering keep held base f g) (still held (Pair f g))
  pub masked : (keep held : Bool) (base : ℕ) (f : Formula) → IsFine held (masking keep held base f) (still held f)
  pub turned : (keep : Bool) (vote flag base : ℕ) (f : Formula) → IsFine false (flagging keep vote flag base f) false
  -- between statements
  pub sent : (held : Bool) → IsFine held (shapes.flush held) false
  pub opened : (held : Bool) (flag : ℕ) → IsFine held (shapes.flagged held flag) false

-- ---- what is set

-- What is evaluated sets no register of its side below `base`, and inside pardo no uniform register; it leaves the range, the masks, the
-- output, the memory and the statement.
pub record EvaluationsStay : Type 0 where
  pub outside : (keep held : Bool) (base : ℕ) (f : Formula) →
      AllByRecursion (λ (i : Instr). evaluates base i ≡ true) (evaluation keep held Uniform base f)
  pub inside : (keep held : Bool) (base n : ℕ) (f : Formula) →
      AllByRecursion (λ (i : Instr). evaluates n i ≡ true) (evaluation keep held Private base f)
  pub above : (keep held : Bool) (s : Side) (base : ℕ) (f : Formula) →
      AllByRecursion (λ (i : Instr). is_above base i ≡ true) (evaluation keep held s base f)
