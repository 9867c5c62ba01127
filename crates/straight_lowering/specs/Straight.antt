-- The straight parts of statements with parts.
use Rattle.std.specs.Prelude.{ℕ, Bool, true, List, [], ◌∷◌, ◌++◌}
use Rattle.superstep_instructions.specs.declared.instr.Side.TheVariants.{Uniform, Private}
use Rattle.superstep_instructions.specs.declared.instr.Arithmetic.TheVariants as arithmetic
use Rattle.superstep_instructions.specs.declared.instr.Truth.TheVariants as truth
use Rattle.superstep_instructions.specs.declared.instr.Instr.{Instr}
use Rattle.superstep_instructions.specs.declared.instr.Instr.TheVariants.{Copy, Calculate, Decide, Mask, Unmask, Vote}
use Rattle.plain_form.specs.Registers.{variable}
use Rattle.plain_form.specs.Formulas.{Formula, Pair}
use Rattle.plain_form.specs.Groups.{value_at, first_at, second_at}
use Rattle.plain_form.specs.Shapes.{still, flush, begun, counted}
use Rattle.straight_lowering.specs.declared.ranges.Turns.{Turns}

-- ---- outside pardo

-- the test of an `if`
abbrev pub parted : Bool → ℕ → ℕ → Formula → List Instr
parted held line free f = counted true held line Uniform free f ++ flush (still held f)

-- the bounds of a `for`
abbrev pub bounds : Bool → ℕ → Turns → Formula → Formula → List Instr
bounds held line t f g =
    counted true held line Uniform t.behind (Pair f g)
    ++ (Copy Uniform t.turn (first_at Uniform t.behind f g) ∷ Copy Uniform t.high (second_at Uniform t.behind f g) ∷ [])
    ++ flush (still held (Pair f g))
    ++ (Decide Uniform truth.AtMost t.more t.turn t.high ∷ [])

-- a setting
abbrev pub setting : Bool → ℕ → Turns → ℕ → List Instr
setting held line t x =
    begun true held line ++ Copy Uniform (variable x) t.turn ∷ Decide Uniform truth.Less t.more t.turn t.high
    ∷ Calculate Uniform arithmetic.Add t.turn t.turn t.more 0 ∷ []

-- ---- inside pardo

-- the test of an `if`
abbrev pub masked : Bool → ℕ → ℕ → Formula → List Instr
masked held line base f = counted true held line Private base f ++ Mask (value_at Private base f) ∷ []

-- the test of a `while`
abbrev pub flags : Bool → ℕ → (vote flag base : ℕ) → Formula → List Instr
flags held line vote flag base f =
    counted true held line Private base f
    ++ Copy Private flag (value_at Private base f) ∷ Unmask ∷ Mask flag ∷ Vote vote ∷ []
