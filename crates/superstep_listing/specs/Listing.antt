-- The listing of superstep code: lines of words, and which text is one.
use Rattle.std.specs.Prelude.{ℕ, ◌+◌, List, [], ◌∷◌, ◌++◌, length, map, codes, ℤ, pos, Option, Some, None}
use Rattle.std.specs.Fmt.{decimal, signed_decimal}
use Rattle.std.specs.List.{flat_map, join_with_byte}
use Rattle.pram_model.specs.declared.rule.Rule.{Rule}
use Rattle.pram_model.specs.Layout.{SharedEntry}
use Rattle.pram_model.specs.Rules.{rule_word}
use Rattle.superstep_instructions.specs.declared.instr.Arithmetic.{Arithmetic}
use Rattle.superstep_instructions.specs.declared.instr.Arithmetic.TheVariants as arithmetic
use Rattle.superstep_instructions.specs.declared.instr.Instr.{Instr}
use Rattle.superstep_instructions.specs.declared.instr.Instr.TheVariants.{Mark, Set, Copy, Negate, Calculate, Decide, Not, CopyUniform}
use Rattle.superstep_instructions.specs.declared.instr.Instr.TheVariants.{Index}
use Rattle.superstep_instructions.specs.declared.instr.Instr.TheVariants.{Enter, Leave, Mask, Flip, Unmask, Ask, Put, Send, Reply, Vote}
use Rattle.superstep_instructions.specs.declared.instr.Instr.TheVariants.{Print}
use Rattle.superstep_instructions.specs.declared.instr.Instr.TheVariants.{Jump, JumpIfZero, Halt}
use Rattle.superstep_instructions.specs.declared.instr.Side.{Side}
use Rattle.superstep_instructions.specs.declared.instr.Side.TheVariants.{Uniform, Private}
use Rattle.superstep_instructions.specs.declared.instr.Truth.{Truth}
use Rattle.superstep_instructions.specs.declared.instr.Truth.TheVariants as truth
use Rattle.superstep_instructions.specs.Code.{SuperstepCode, Operand, Short, Long, Wide, operands_of}

abbrev pub side_word : Side → List ℕ
side_word Uniform = codes "u"
side_word Private = codes "p"

abbrev pub arithmetic_word : Arithmetic → List ℕ
arithmetic_word arithmetic.Add = codes "add"
arithmetic_word arithmetic.Subtract = codes "sub"
arithmetic_word arithmetic.Multiply = codes "mul"
arithmetic_word arithmetic.Divide = codes "div"
arithmetic_word arithmetic.Remainder = codes "mod"

abbrev pub truth_word : Truth → List ℕ
truth_word truth.Equal = codes "eq"
truth_word truth.Less = codes "lt"
truth_word truth.AtMost = codes "le"
truth_word truth.And = codes "and"
truth_word truth.Or = codes "or"

-- the letter of an instruction's side, where it has one
abbrev pub side_of : Instr → List ℕ
side_of (Set side d n) = side_word side
side_of (Copy side d s) = side_word side
side_of (Negate side d s p) = side_word side
side_of (Calculate side o d a b p) = side_word side
side_of (Decide side o d a b) = side_word side
side_of (Not side d s) = side_word side
side_of (Ask side d c s p) = side_word side
side_of (Put side c s v p) = side_word side
side_of _ = []

-- the word of an instruction without that letter
abbrev pub stem_of : Instr → List ℕ
stem_of (Mark line) = codes "mark"
stem_of (Set side d n) = codes "set"
stem_of (Copy side d s) = codes "copy"
stem_of (Negate side d s p) = codes "neg"
stem_of (Calculate side o d a b p) = arithmetic_word o
stem_of (Decide side o d a b) = truth_word o
stem_of (Not side d s) = codes "not"
stem_of (CopyUniform d s) = codes "pfrom"
stem_of (Index d) = codes "pindex"
stem_of (Enter a b p) = codes "enter"
stem_of Leave = codes "leave"
stem_of (Mask s) = codes "mask"
stem_of Flip = codes "flip"
stem_of Unmask = codes "unmask"
stem_of (Ask side d c s p) = codes "ask"
stem_of (Put side c s v p) = codes "put"
stem_of Send = codes "send"
stem_of Reply = codes "reply"
stem_of (Vote d) = codes "vote"
stem_of (Print s) = codes "print"
stem_of (Jump t) = codes "jump"
stem_of (JumpIfZero s t) = codes "jzero"
stem_of Halt = codes "halt"

-- the number of an operand
abbrev pub number_of : Operand → ℤ
number_of (Short n) = pos n
number_of (Long n) = pos n
number_of (Wide z) = z

-- the numbers of an instruction's operands
abbrev pub numbers_of : Instr → List ℤ
numbers_of instr = map number_of (operands_of instr)

-- The words of each line. All numbers are decimal.

-- a word and a number
abbrev pub field_words : List ℕ → ℕ → List (List ℕ)
field_words name n = name ∷ decimal n ∷ []

-- a shared declaration
abbrev pub entry_words : List ℕ → Option (ℤ × ℤ) → List (List ℕ)
entry_words name None = codes "cell" ∷ name ∷ []
entry_words name (Some (low, high)) = codes "array" ∷ name ∷ signed_decimal low ∷ signed_decimal high ∷ []

-- instruction k
abbrev pub instr_words : ℕ → Instr → List (List ℕ)
instr_words k instr = decimal k ∷ (side_of instr ++ stem_of instr) ∷ map signed_decimal (numbers_of instr)

-- words with one space between each two
abbrev pub line : List (List ℕ) → List ℕ
line = join_with_byte 32

abbrev pub entry_line : SharedEntry → List ℕ
entry_line entry = line (entry_words entry.name entry.bounds)

-- instructions that are numbered from k on
abbrev pub instr_lines : ℕ → List Instr → List (List ℕ)
instr_lines k [] = []
instr_lines k (instr ∷ rest) = line (instr_words k instr) ∷ instr_lines (k + 1) rest

abbrev pub rule_line : Rule → List ℕ
rule_line rule = line (codes "rule" ∷ rule_word rule ∷ [])

-- the lines before the declarations
abbrev pub head_lines : Rule → ℕ → List (List ℕ)
head_lines rule procs = codes "bsp 1" ∷ rule_line rule ∷ line (field_words (codes "procs") procs) ∷ []

-- the lines behind them
abbrev pub size_lines : (uniform private count : ℕ) → List (List ℕ)
size_lines uniform private count = line (field_words (codes "uniform") uniform) ∷ line (field_words (codes "private") private)
    ∷ line (field_words (codes "code") count) ∷ []

-- the lines of code
abbrev pub lines_of : SuperstepCode → List (List ℕ)
lines_of code =
    head_lines code.rule code.procs
    ++ (map entry_line code.layout
    ++ (size_lines code.uniform_registers code.private_registers (length code.instructions)
    ++ instr_lines 0 code.instructions))

-- lines, each ended by LF
abbrev pub ended : List (List ℕ) → List ℕ
ended = flat_map (λ bytes. bytes ++ 10 ∷ [])

-- the spelling of code
abbrev pub spelling : SuperstepCode → List ℕ
spelling code = ended (lines_of code)
