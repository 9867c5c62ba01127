-- The code of a formula: first its reads by level, all of a level in one exchange, and then what stands around them.
use Rattle.std.specs.Prelude.{ℕ, zero, suc, ◌+◌, Bool, true, false, nat_eq, List, [], ◌∷◌, ◌++◌}
use Rattle.superstep_instructions.specs.declared.instr.Side.{Side}
use Rattle.superstep_instructions.specs.declared.instr.Instr.{Instr}
use Rattle.superstep_instructions.specs.declared.instr.Instr.TheVariants.{Ask, Send, Reply}
use Rattle.plain_form.specs.Formulas.{Formula, Zero, Number, Variable, Index, Local, Read, Before, Between, Pair, reads, positions, nesting}
use Rattle.plain_form.specs.Regions.{place, region}

-- these instructions, or none
abbrev pub only : Bool → List Instr → List Instr
only true is = is
only false is = []

-- The asks of the reads with l reads nested in their subscripts, in the order of positions: each behind its subscript, which is
-- evaluated on the stack from b on.
abbrev pub asks : Side → ℕ → Formula → (t b q : ℕ) → List Instr
asks s l Zero t b q = []
asks s l (Number n) t b q = []
asks s l (Variable x) t b q = []
asks s l Index t b q = []
asks s l (Local x) t b q = []
asks s l (Read a f) t b q =
    asks s l f t b q ++ only (nat_eq (nesting f) l) (region s f t b q
    ++ Ask s (t + reads f) a (place s f t b) (q + positions f + 1) ∷ [])
asks s l (Before o f) t b q = asks s l f t b q
asks s l (Between o f g) t b q = asks s l f t b q ++ asks s l g (t + reads f) b (q + positions f)
asks s l (Pair f g) t b q = asks s l f t b q ++ asks s l g (t + reads f) b (q + positions f)

-- n levels of reads, from l on
abbrev pub groups : Side → (n l : ℕ) → Formula → (t b : ℕ) → List Instr
groups s zero l f t b = []
groups s (suc n) l f t b = (asks s l f t b 0 ++ Send ∷ Reply ∷ []) ++ groups s n (l + 1) f t b

-- the first register of the stack, where the statement's registers begin at base: its reads come first
abbrev pub stack : ℕ → Formula → ℕ
stack base f = base + reads f

-- all code of a formula
abbrev pub evaluated : Side → ℕ → Formula → List Instr
evaluated s base f = groups s (nesting f) 0 f base (stack base f) ++ region s f base (stack base f) 0

-- the register with its value
abbrev pub value_at : Side → ℕ → Formula → ℕ
value_at s base f = place s f base (stack base f)

-- those of two expressions, one behind the other
abbrev pub first_at : Side → ℕ → Formula → Formula → ℕ
first_at s base f g = place s f base (stack base (Pair f g))

abbrev pub second_at : Side → ℕ → Formula → Formula → ℕ
second_at s base f g = place s g (base + reads f) (stack base (Pair f g) + 1)
