-- From the words of an instruction's line to the instruction. A tool of the proofs.
use Rattle.std.specs.Prelude.{ℕ, List, [], ◌∷◌, codes, ℤ, pos, negsuc, Option, Some, None, if◌then◌else◌, ◌==◌, nat_lt, slice_index_or}
use Rattle.pram_model.specs.Names.{same_text}
use Rattle.superstep_instructions.specs.declared.instr.Arithmetic.TheVariants as arithmetic
use Rattle.superstep_instructions.specs.declared.instr.Instr.{Instr}
use Rattle.superstep_instructions.specs.declared.instr.Instr.TheVariants.{Mark, Set, Copy, Negate, Calculate, Decide, Not, CopyUniform}
use Rattle.superstep_instructions.specs.declared.instr.Instr.TheVariants.{Index}
use Rattle.superstep_instructions.specs.declared.instr.Instr.TheVariants.{Enter, Leave, Mask, Flip, Unmask, Ask, Put, Send, Reply, Vote}
use Rattle.superstep_instructions.specs.declared.instr.Instr.TheVariants.{Print}
use Rattle.superstep_instructions.specs.declared.instr.Instr.TheVariants.{Jump, JumpIfZero, Halt}
use Rattle.superstep_instructions.specs.declared.instr.Side.{Side}
use Rattle.superstep_instructions.specs.declared.instr.Side.TheVariants.{Uniform, Private}
use Rattle.superstep_instructions.specs.declared.instr.Truth.TheVariants as truth

-- what stands beside a word in such a list
abbrev pub lookup : List (List ℕ × Instr) → List ℕ → Option Instr
lookup [] word = None
lookup (entry ∷ rest) word = if same_text entry.0 word then Some entry.1 else lookup rest word

-- the words of instructions without a side, with the instructions whose operands are 0
abbrev pub plain_words : List (List ℕ × Instr)
plain_words =
    (codes "mark", Mark 0) ∷ (codes "pfrom", CopyUniform 0 0) ∷ (codes "pindex", Index 0) ∷ (codes "enter", Enter 0 0 0)
    ∷ (codes "leave", Leave)
    ∷ (codes "mask", Mask 0) ∷ (codes "flip", Flip) ∷ (codes "unmask", Unmask) ∷ []

abbrev pub control_words : List (List ℕ × Instr)
control_words =
    (codes "send", Send) ∷ (codes "reply", Reply) ∷ (codes "vote", Vote 0) ∷ (codes "print", Print 0) ∷ (codes "jump", Jump 0)
    ∷ (codes "jzero", JumpIfZero 0 0)
    ∷ (codes "halt", Halt) ∷ []

-- the words of those with a side, without its letter
abbrev pub move_words : Side → List (List ℕ × Instr)
move_words side =
    (codes "set", Set side 0 (pos 0)) ∷ (codes "copy", Copy side 0 0) ∷ (codes "neg", Negate side 0 0 0) ∷ (codes "not", Not side 0 0)
    ∷ (codes "ask", Ask side 0 0 0 0)
    ∷ (codes "put", Put side 0 0 0 0) ∷ []

abbrev pub operation_words : Side → List (List ℕ × Instr)
operation_words side =
    (codes "add", Calculate side arithmetic.Add 0 0 0 0) ∷ (codes "sub", Calculate side arithmetic.Subtract 0 0 0 0)
    ∷ (codes "mul", Calculate side arithmetic.Multiply 0 0 0 0)
    ∷ (codes "div", Calculate side arithmetic.Divide 0 0 0 0) ∷ (codes "mod", Calculate side arithmetic.Remainder 0 0 0 0)
    ∷ (codes "eq", Decide side truth.Equal 0 0 0)
    ∷ (codes "lt", Decide side truth.Less 0 0 0) ∷ (codes "le", Decide side truth.AtMost 0 0 0) ∷ (codes "and", Decide side truth.And 0 0 0)
    ∷ (codes "or", Decide side truth.Or 0 0 0) ∷ []

-- the first of two that is there
abbrev pub either : Option Instr → Option Instr → Option Instr
either None other = other
either (Some x) other = Some x

abbrev pub stem_template : Side → List ℕ → Option Instr
stem_template side stem = either (lookup (move_words side) stem) (lookup (operation_words side) stem)

abbrev pub sided_template : List ℕ → Option Instr
sided_template [] = None
sided_template (b ∷ stem) = if b == 117 then stem_template Uniform stem else (if b == 112 then stem_template Private stem else None)

-- the instruction of a word with all operands 0
abbrev pub template_of : List ℕ → Option Instr
template_of word = either (lookup plain_words word) (either (lookup control_words word) (sided_template word))

-- a number where it fits, and else 0
abbrev pub fit_to : ℕ → ℤ → ℕ
fit_to bound (pos n) = if nat_lt n bound then n else 0
fit_to bound (negsuc n) = 0

abbrev pub wide_at : List ℤ → ℕ → ℤ
wide_at ns k = slice_index_or ns k (pos 0)

abbrev pub short_at : List ℤ → ℕ → ℕ
short_at ns k = fit_to 65536 (wide_at ns k)

abbrev pub long_at : List ℤ → ℕ → ℕ
long_at ns k = fit_to 4294967296 (wide_at ns k)

-- such an instruction with these numbers as operands, as far as they are there and fit
abbrev pub candidate_of : Instr → List ℤ → Instr
candidate_of (Mark l) ns = Mark (long_at ns 0)
candidate_of (Set side d n) ns = Set side (short_at ns 0) (wide_at ns 1)
candidate_of (Copy side d s) ns = Copy side (short_at ns 0) (short_at ns 1)
candidate_of (Negate side d s p) ns = Negate side (short_at ns 0) (short_at ns 1) (long_at ns 2)
candidate_of (Calculate side o d a b p) ns = Calculate side o (short_at ns 0) (short_at ns 1) (short_at ns 2) (long_at ns 3)
candidate_of (Decide side o d a b) ns = Decide side o (short_at ns 0) (short_at ns 1) (short_at ns 2)
candidate_of (Not side d s) ns = Not side (short_at ns 0) (short_at ns 1)
candidate_of (CopyUniform d s) ns = CopyUniform (short_at ns 0) (short_at ns 1)
candidate_of (Index d) ns = Index (short_at ns 0)
candidate_of (Enter a b p) ns = Enter (short_at ns 0) (short_at ns 1) (long_at ns 2)
candidate_of (Mask s) ns = Mask (short_at ns 0)
candidate_of (Ask side d c s p) ns = Ask side (short_at ns 0) (short_at ns 1) (short_at ns 2) (long_at ns 3)
candidate_of (Put side c s v p) ns = Put side (short_at ns 0) (short_at ns 1) (short_at ns 2) (long_at ns 3)
candidate_of (Vote d) ns = Vote (short_at ns 0)
candidate_of (Print s) ns = Print (short_at ns 0)
candidate_of (Jump t) ns = Jump (short_at ns 0)
candidate_of (JumpIfZero s t) ns = JumpIfZero (short_at ns 0) (short_at ns 1)
candidate_of instr ns = instr
