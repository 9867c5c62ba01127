-- Which register holds what.
use Rattle.std.specs.Prelude.{ℕ, ◌+◌, max, List, [], ◌∷◌, ◌++◌}
use Rattle.superstep_instructions.specs.declared.instr.Side.{Side}
use Rattle.superstep_instructions.specs.declared.instr.Side.TheVariants.{Uniform, Private}
use Rattle.superstep_instructions.specs.declared.instr.Instr.{Instr}
use Rattle.superstep_instructions.specs.declared.instr.Instr.TheVariants.{Set, Copy, Negate, Calculate, Decide, Not, CopyUniform, Index}
use Rattle.superstep_instructions.specs.declared.instr.Instr.TheVariants.{Enter, Mask, Ask, Put, Vote, Print, JumpIfZero}

-- register 0 of either side is never written, so it stays 0
abbrev pub zero_register : ℕ
zero_register = 0

-- ---- uniform registers: the variables from 1 on, then three for each open `for`, then what the statement needs

abbrev pub variable : ℕ → ℕ
variable k = 1 + k

abbrev pub behind_variables : ℕ → ℕ
behind_variables count = 1 + count

-- the three of a `for`, from the first that is free on: the number whose turn comes next, the last number, whether there is one more turn
abbrev pub turn : ℕ → ℕ
turn free = free

abbrev pub high : ℕ → ℕ
high free = free + 1

abbrev pub more : ℕ → ℕ
more free = free + 2

abbrev pub behind_turns : ℕ → ℕ
behind_turns free = free + 3

-- ---- private registers: the index, the locals, then a flag for each open `while`, then what the statement needs

abbrev pub index : ℕ
index = 1

abbrev pub local : ℕ → ℕ
local k = 2 + k

abbrev pub behind_locals : ℕ → ℕ
behind_locals count = 2 + count

-- ---- how many there are

-- these registers, if the instruction works on that side
abbrev pub if_on : Side → Side → List ℕ → List ℕ
if_on Uniform Uniform rs = rs
if_on Private Private rs = rs
if_on Uniform Private rs = []
if_on Private Uniform rs = []

-- the registers of a side that an instruction names
abbrev pub named : Side → Instr → List ℕ
named s (Set t d n) = if_on s t (d ∷ [])
named s (Copy t d x) = if_on s t (d ∷ x ∷ [])
named s (Negate t d x q) = if_on s t (d ∷ x ∷ [])
named s (Calculate t o d x y q) = if_on s t (d ∷ x ∷ y ∷ [])
named s (Decide t o d x y) = if_on s t (d ∷ x ∷ y ∷ [])
named s (Not t d x) = if_on s t (d ∷ x ∷ [])
named s (CopyUniform d x) = if_on s Private (d ∷ []) ++ if_on s Uniform (x ∷ [])
named s (Index d) = if_on s Private (d ∷ [])
named s (Enter x y q) = if_on s Uniform (x ∷ y ∷ [])
named s (Mask x) = if_on s Private (x ∷ [])
named s (Ask t d entry x q) = if_on s t (d ∷ x ∷ [])
named s (Put t entry x y q) = if_on s t (x ∷ y ∷ [])
named s (Vote d) = if_on s Uniform (d ∷ [])
named s (Print x) = if_on s Uniform (x ∷ [])
named s (JumpIfZero x target) = if_on s Uniform (x ∷ [])
named s _ = []

-- one more than the greatest of some registers
abbrev pub behind_all : List ℕ → ℕ
behind_all [] = 0
behind_all (r ∷ rs) = max (r + 1) (behind_all rs)

-- and of those of a side that some instructions name
abbrev pub registers : Side → List Instr → ℕ
registers s [] = 0
registers s (i ∷ is) = max (behind_all (named s i)) (registers s is)
