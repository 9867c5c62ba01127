-- What a line gives: some cells, and their values.
use Rattle.std.specs.Prelude.{◌≡◌, ℕ, ◌+◌, ◌-◌, ◌≤◌, ℤ, nat_lt, if◌then◌else◌, List, [], ◌∷◌, length, Option, Some, None, Result, Ok}
use Rattle.std.specs.Prelude.{Err}
use Rattle.std.specs.Option.{option_map}
use Rattle.pram_model.specs.Layout.{SharedEntry}
use Rattle.pram_tokens.specs.Input.{Word, number_of, words}
use Rattle.pram_tokens.specs.declared.error.TextFault.TheVariants.{BadToken}
use Rattle.memory_texts.specs.declared.assignment.Assignment.{Assignment}
use Rattle.memory_texts.specs.declared.memory_fault.MemoryFault.{MemoryFault}
use Rattle.memory_texts.specs.declared.memory_fault.MemoryFault.TheVariants.{OutOfMemory, Text, TooMany, Unknown}
use Rattle.sized_texts.specs.Reading.{◌>>=◌}
use Rattle.memory_texts.specs.Front.{past_blanks}
use Rattle.memory_texts.specs.Headings.{heading_front}
use Rattle.memory_texts.specs.Cells.{cells_of}

-- that fault is what is so, unless memory was refused
abbrev pub IsFault : {Y : Type 0} → MemoryFault → Result Y MemoryFault → Type 0
IsFault OutOfMemory is = Unit {0}
IsFault (Text fault) is = is ≡ Err (Text fault)
IsFault (Unknown at) is = is ≡ Err (Unknown at)
IsFault (TooMany values cells) is = is ≡ Err (TooMany values cells)

-- what a function answered is what is so, unless memory was refused
abbrev pub Answers : {X Y : Type 0} → (X → Y) → Result X MemoryFault → Result Y MemoryFault → Type 0
Answers view (Ok x) is = is ≡ Ok (view x)
Answers view (Err fault) is = IsFault fault is

-- the values of cells from that one on
pub record Assigned : Type 0 where
  pub first : ℕ
  pub values : List ℤ

abbrev pub assigned : Assignment → Assigned
assigned a = record { first = a.first; values = a.values.items }

abbrev pub assigned_if : Option Assignment → Option Assigned
assigned_if = option_map assigned

-- the cells of an assignment are among the first so many
abbrev pub Reaches : ℕ → Assigned → Type 0
Reaches total a = a.first + length a.values ≤ total

abbrev pub ReachesIf : ℕ → Option Assigned → Type 0
ReachesIf total None = Unit {0}
ReachesIf total (Some a) = Reaches total a

-- that a line that ends there has no such form, where so many bytes are left
abbrev pub misplaced : (end left : ℕ) → MemoryFault
misplaced end left = Text (BadToken (end - left))

-- what is found in a line that ends there, or where something else stands
abbrev pub in_line : {A : Type 0} → ℕ → Result A ℕ → Result A MemoryFault
in_line end (Ok x) = Ok x
in_line end (Err left) = Err (misplaced end left)

-- a number before others, or the place of a word that is none
abbrev pub number_before : Option ℤ → (at : ℕ) → Result (List ℤ) ℕ → Result (List ℤ) ℕ
number_before None at rest = Err at
number_before (Some z) at (Ok zs) = Ok (z ∷ zs)
number_before (Some z) at (Err wrong) = Err wrong

-- the numbers of words, or the place of the first word that is none
abbrev pub numbers : List Word → Result (List ℤ) ℕ
numbers [] = Ok []
numbers (w ∷ ws) = number_before (number_of w.bytes) w.offset (numbers ws)

-- what is read, or how many bytes are left at the wrong place of a text that has so many
abbrev pub left_in : {A : Type 0} → ℕ → Result A ℕ → Result A ℕ
left_in total (Ok x) = Ok x
left_in total (Err at) = Err (total - at)

-- the values behind the `=` of a line: words with white space between them
abbrev pub values_of : List ℕ → Result (List ℤ) ℕ
values_of text = left_in (length text) (numbers (words 0 text))

-- the values of so many cells, from that one on
abbrev pub assignment_of : (first cells : ℕ) → List ℤ → Result Assigned MemoryFault
assignment_of first cells values =
    if nat_lt cells (length values) then Err (TooMany (length values) cells) else Ok (record { first = first; values = values })

-- what a line gives that ends there and is not blank: its form is looked at first, then its name and interval, and then the number of
-- values
abbrev pub assignment_front : List SharedEntry → (end : ℕ) → List ℕ → Result Assigned MemoryFault
assignment_front layout end text =
    in_line end (heading_front text) >>= λ h. in_line end (values_of h.1) >>= λ values. cells_of layout end h.0
    >>= λ cells. assignment_of cells.0 cells.1 values

-- what a line gives: nothing where it is blank
abbrev pub assignment_by : List SharedEntry → (end : ℕ) → List ℕ → Result (Option Assigned) MemoryFault
assignment_by layout end [] = Ok None
assignment_by layout end (b ∷ rest) = assignment_front layout end (b ∷ rest) >>= λ a. Ok (Some a)

abbrev pub line_assignment : List SharedEntry → (end : ℕ) → List ℕ → Result (Option Assigned) MemoryFault
line_assignment layout end text = assignment_by layout end (past_blanks text)
