-- The memory that a text gives: line by line, each of which gives values to cells.
use Rattle.std.specs.Prelude.{◌≡◌, ℕ, ◌+◌, ◌<◌, ◌==◌, ℤ, pos, if◌then◌else◌, List, [], ◌∷◌, ◌++◌, length, take, drop, replicate}
use Rattle.std.specs.Prelude.{Option, Some, None, Result, Ok, Err}
use Rattle.pram_model.specs.Layout.{SharedEntry, total_size}
use Rattle.pram_tokens.specs.Plain.{IsFirstOther, IsPlain}
use Rattle.pram_tokens.specs.Scanning.{longest}
use Rattle.pram_tokens.specs.declared.error.TextFault.TheVariants.{BadToken, NotAscii, Syntax, TextTooLong, TooDeep}
use Rattle.pram_tokens.specs.declared.error.TextFault.TheVariants as told
use Rattle.memory_texts.specs.declared.front.Run.TheVariants as run
use Rattle.memory_texts.specs.declared.memory_fault.MemoryFault.{MemoryFault}
use Rattle.memory_texts.specs.declared.memory_fault.MemoryFault.TheVariants.{OutOfMemory, Text, TooMany, Unknown}
use Rattle.sized_texts.specs.Reading.{◌>>=◌}
use Rattle.memory_texts.specs.Front.{front}
use Rattle.memory_texts.specs.Assignments.{Assigned, line_assignment}

-- the bytes of a line up to its end, and the offset of the first one
pub record Line : Type 0 where
  pub offset : ℕ
  pub bytes : List ℕ

-- a byte before these lines: it is the first one of the first line
abbrev pub with_byte : (at b : ℕ) → List Line → List Line
with_byte at b [] = record { offset = at; bytes = b ∷ [] } ∷ []
with_byte at b (l ∷ ls) = record { offset = at; bytes = b ∷ l.bytes } ∷ ls

-- the lines of a text that begins at that offset
abbrev pub lines : ℕ → List ℕ → List Line
lines at [] = []
lines at (b ∷ rest) = if b == 10 then record { offset = at; bytes = [] } ∷ lines (at + 1) rest else with_byte at b (lines (at + 1) rest)

-- what a line gives, up to its comment
abbrev pub given : List SharedEntry → Line → Result (Option Assigned) MemoryFault
given layout l = line_assignment layout (l.offset + length (front run.Code l.bytes)) (front run.Code l.bytes)

-- the values of cells where others are put from that cell on
abbrev pub replaced : (memory : List ℤ) → (first : ℕ) → (values : List ℤ) → List ℤ
replaced memory first values = take first memory ++ (values ++ drop (first + length values) memory)

abbrev pub after : List ℤ → Option Assigned → List ℤ
after memory None = memory
after memory (Some a) = replaced memory a.first a.values

-- what lines leave in cells of these values, one after the other, or what is wrong with the first line that is wrong
abbrev pub after_lines : List SharedEntry → List Line → (memory : List ℤ) → Result (List ℤ) MemoryFault
after_lines layout [] memory = Ok memory
after_lines layout (l ∷ ls) memory = given layout l >>= λ a. after_lines layout ls (after memory a)

-- what a text leaves in cells that are all 0
abbrev pub memory_of : List SharedEntry → (text : List ℕ) → Result (List ℤ) MemoryFault
memory_of layout text = after_lines layout (lines 0 text) (replicate (total_size layout) (pos 0))

-- A memory text of these values: at most 1,048,576 bytes below 128, whose lines leave them.
pub record IsMemoryOf (layout : List SharedEntry) (text : List ℕ) (memory : List ℤ) : Type 0 where
  pub plain : IsPlain text
  pub left : memory_of layout text ≡ Ok memory

-- that is wrong with the first line that is wrong, in a text that is not too long and has no byte of 128 or more
pub record IsWrongLine (layout : List SharedEntry) (text : List ℕ) (fault : MemoryFault) : Type 0 where
  pub plain : IsPlain text
  pub wrong : memory_of layout text ≡ Err fault

-- A refusal says what is wrong with the text, in this order: its length, its bytes, its lines. Memory is asked for behind the first two.
abbrev pub IsRefused : List SharedEntry → (text : List ℕ) → MemoryFault → Type 0
IsRefused layout text (Text TextTooLong) = longest < length text
IsRefused layout text (Text (NotAscii at)) = IsFirstOther text at
IsRefused layout text (Text (BadToken at)) = IsWrongLine layout text (Text (BadToken at))
IsRefused layout text (Text (Syntax at)) = ⊥
IsRefused layout text (Text (TooDeep at)) = ⊥
IsRefused layout text (Text told.OutOfMemory) = ⊥
IsRefused layout text (Unknown at) = IsWrongLine layout text (Unknown at)
IsRefused layout text (TooMany values cells) = IsWrongLine layout text (TooMany values cells)
IsRefused layout text OutOfMemory = IsPlain text

-- the answer is those values, unless memory was refused
abbrev pub IsAnswer : {X : Type 0} → (X → List ℤ) → List ℤ → Result X MemoryFault → Type 0
IsAnswer view memory (Ok found) = view found ≡ memory
IsAnswer view memory (Err OutOfMemory) = Unit {0}
IsAnswer view memory (Err _) = ⊥
