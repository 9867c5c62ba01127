-- The code of what stands around the reads of a formula, on a stack of registers. The reads have their values already, each in a
-- register of its own.
use Rattle.std.specs.Prelude.{ℕ, ◌+◌, List, [], ◌∷◌, ◌++◌}
use Rattle.pram_tokens.specs.declared.token.Binary.{Binary}
use Rattle.pram_tokens.specs.declared.token.Binary.TheVariants.{Or, And, Equal, Unequal, Less, AtMost, Greater, AtLeast, Add, Subtract}
use Rattle.pram_tokens.specs.declared.token.Binary.TheVariants.{Multiply, Divide, Remainder}
use Rattle.pram_trees.specs.declared.tree.Prefix.{Prefix}
use Rattle.pram_trees.specs.declared.tree.Prefix.TheVariants as before
use Rattle.superstep_instructions.specs.declared.instr.Side.{Side}
use Rattle.superstep_instructions.specs.declared.instr.Side.TheVariants.{Uniform, Private}
use Rattle.superstep_instructions.specs.declared.instr.Arithmetic.TheVariants as arithmetic
use Rattle.superstep_instructions.specs.declared.instr.Truth.TheVariants as truth
use Rattle.superstep_instructions.specs.declared.instr.Instr.{Instr}
use Rattle.superstep_instructions.specs.declared.instr.Instr.TheVariants.{Set, Negate, Calculate, Decide, Not, CopyUniform}
use Rattle.plain_form.specs.Registers.{zero_register, variable, index, local}
use Rattle.plain_form.specs.Formulas.{Formula, Zero, Number, Variable, Index, Local, Read, Before, Between, Pair, reads, positions}

-- where a uniform variable is read: outside pardo where it stands, inside where it was copied to, at b
abbrev pub variable_at : Side → ℕ → ℕ → ℕ
variable_at Uniform x b = variable x
variable_at Private x b = b

-- inside pardo it is copied
abbrev pub variable_code : Side → ℕ → ℕ → List Instr
variable_code Uniform x b = []
variable_code Private x b = CopyUniform b (variable x) ∷ []

-- The register with a formula's value, whose reads have registers from t on and whose stack begins at b: names and reads stay where
-- they are, all else is at b.
abbrev pub place : Side → Formula → (t b : ℕ) → ℕ
place s Zero t b = zero_register
place s (Number n) t b = b
place s (Variable x) t b = variable_at s x b
place s Index t b = index
place s (Local x) t b = local x
place s (Read a f) t b = t + reads f
place s (Before o f) t b = b
place s (Between o f g) t b = b
place s (Pair f g) t b = place s f t b

-- an operator before the value of register x, at position q, into b
abbrev pub before_code : Side → Prefix → (b x q : ℕ) → List Instr
before_code s before.Negate b x q = Negate s b x q ∷ []
before_code s before.Not b x q = Not s b x ∷ []

-- an operator between the values of registers x and y
abbrev pub between_code : Side → Binary → (b x y q : ℕ) → List Instr
between_code s Or b x y q = Decide s truth.Or b x y ∷ []
between_code s And b x y q = Decide s truth.And b x y ∷ []
between_code s Equal b x y q = Decide s truth.Equal b x y ∷ []
between_code s Unequal b x y q = Decide s truth.Equal b x y ∷ Not s b b ∷ []
between_code s Less b x y q = Decide s truth.Less b x y ∷ []
between_code s AtMost b x y q = Decide s truth.AtMost b x y ∷ []
between_code s Greater b x y q = Decide s truth.Less b y x ∷ []
between_code s AtLeast b x y q = Decide s truth.AtMost b y x ∷ []
between_code s Add b x y q = Calculate s arithmetic.Add b x y q ∷ []
between_code s Subtract b x y q = Calculate s arithmetic.Subtract b x y q ∷ []
between_code s Multiply b x y q = Calculate s arithmetic.Multiply b x y q ∷ []
between_code s Divide b x y q = Calculate s arithmetic.Divide b x y q ∷ []
between_code s Remainder b x y q = Calculate s arithmetic.Remainder b x y q ∷ []

-- The instructions, where q positions are gone through: operands before their operator, the left one at b, the right one at b + 1.
abbrev pub region : Side → Formula → (t b q : ℕ) → List Instr
region s Zero t b q = []
region s (Number n) t b q = Set s b n ∷ []
region s (Variable x) t b q = variable_code s x b
region s Index t b q = []
region s (Local x) t b q = []
region s (Read a f) t b q = []
region s (Before o f) t b q = region s f t b q ++ before_code s o b (place s f t b) (q + positions f + 1)
region s (Between o f g) t b q =
    region s f t b q ++ (region s g (t + reads f) (b + 1) (q + positions f)
    ++ between_code s o b (place s f t b) (place s g (t + reads f) (b + 1)) (q + positions f + positions g + 1))
region s (Pair f g) t b q = region s f t b q ++ region s g (t + reads f) (b + 1) (q + positions f)
