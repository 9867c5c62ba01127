-- What a text with sizes expands to, or why it has no expansion.
use Rattle.std.specs.Prelude.{◌≡◌, ℕ, suc, ◌+◌, nat_lt, if◌then◌else◌, List, [], ◌∷◌, length, take, drop, slice_index, Option, Some, None}
use Rattle.std.specs.Prelude.{position, Result, Ok, Err}
use Rattle.pram_tokens.specs.Scanning.{longest}
use Rattle.sized_texts.specs.declared.fault.SizeFault.{SizeFault}
use Rattle.sized_texts.specs.declared.fault.SizeFault.TheVariants.{TooLong, NotDeclared}
use Rattle.sized_texts.specs.declared.size.Size.{Size}
use Rattle.sized_texts.specs.Faults.{in_text}
use Rattle.sized_texts.specs.Pieces.{Expansion, pieces_of}
use Rattle.sized_texts.specs.Reading.{◌>>=◌}
use Rattle.sized_texts.specs.SizeLines.{comment_length, is_none, line_of, sizes_of}
use Rattle.sized_texts.specs.Sizes.{value_in}

-- the offsets of bytes, of which the first has that one
abbrev pub offsets_from : ℕ → List ℕ → List ℕ
offsets_from at [] = []
offsets_from at (b ∷ rest) = at ∷ offsets_from (at + 1) rest

-- a text as it stands: each byte came from where it is
abbrev pub itself : List ℕ → Expansion
itself text = record { text = text; places = offsets_from 0 text }

-- the number of the first given name that is no size
abbrev pub undeclared : (sizes given : List Size) → Option ℕ
undeclared sizes given = position (λ g. is_none (value_in sizes g.name)) given

-- an expansion has at most 1,048,576 bytes
abbrev pub short : Expansion → Result Expansion SizeFault
short e = if nat_lt longest (length e.text) then Err TooLong else Ok e

-- a text without sizes is itself, and else it expands to its pieces
abbrev pub expanded : List Size → List ℕ → Result Expansion SizeFault
expanded [] text = Ok (itself text)
expanded (s ∷ sizes) text = in_text (length text) (pieces_of (s ∷ sizes) text) >>= short

abbrev pub expanded_by : List Size → List ℕ → Option ℕ → Result Expansion SizeFault
expanded_by sizes text (Some number) = Err (NotDeclared number)
expanded_by sizes text None = expanded sizes text

-- what a text expands to, where those numbers are given
abbrev pub expansion : (given : List Size) → (text : List ℕ) → Result Expansion SizeFault
expansion given text =
    in_text (length text) (sizes_of given text) >>= λ sizes. expanded_by sizes text (undeclared sizes given)

-- what stands behind the byte at k in its line
abbrev pub line_behind : List ℕ → ℕ → List ℕ
line_behind text k = take (comment_length (drop (suc k) text)) (drop (suc k) text)

-- behind no `#` of a text stands `size WORD =`
abbrev pub HasNoSizeLine : List ℕ → Type 0
HasNoSizeLine text = (k : ℕ) → slice_index text k ≡ 35 → line_of (line_behind text k) ≡ None
