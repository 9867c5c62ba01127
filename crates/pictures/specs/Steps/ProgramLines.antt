-- The program's text of a statement's line, as it stands above its column.
use Rattle.std.specs.Prelude.{ℕ, ◌+◌, ◌-◌, min, max, nat_lt, if◌then◌else◌, List, [], ◌∷◌, length, take, drop, codes}
use Rattle.std.specs.Char.{is_ascii_whitespace}
use Rattle.std.specs.List.{prefix_len, suffix_len}
use Rattle.svg_texts.specs.Shapes.{Words, Letters, Then, Shape, Empty, Text, Over}
use Rattle.pictures.specs.Looks.{upwards}
use Rattle.text_places.specs.Places.{line_text}
use Rattle.journal.specs.Entries.{Entry, Ran, Faulting}

-- ---- the text of a line

abbrev pub without_front : List ℕ → List ℕ
without_front bytes = drop (prefix_len is_ascii_whitespace bytes) bytes

abbrev pub without_end : List ℕ → List ℕ
without_end bytes = take (length bytes - suffix_len is_ascii_whitespace bytes) bytes

-- what stands between its ends, without blanks at both ends
abbrev pub code_of : (text : List ℕ) → (line : ℕ) → List ℕ
code_of text line = without_end (without_front (line_text text line))

-- of what is longer than a row, that it goes on
abbrev pub with_dots : List ℕ → Words
with_dots bytes = Then (Letters bytes) (Letters (codes ".."))

abbrev pub cut : List ℕ → Words
cut bytes = if nat_lt 36 (length bytes) then with_dots (take 34 bytes) else Letters bytes

-- a row that reads upwards from there
abbrev pub code_row : (x y : ℕ) → List ℕ → Shape
code_row x y bytes = Text x y upwards (cut bytes)

abbrev pub more_code : (x y : ℕ) → List ℕ → Shape
more_code x y [] = Empty
more_code x y (b ∷ bytes) = code_row x y (b ∷ bytes)

-- what fits into a row, and what doesn't
abbrev pub first_row : List ℕ → List ℕ
first_row bytes = if nat_lt 36 (length bytes) then take 36 bytes else bytes

abbrev pub next_row : List ℕ → List ℕ
next_row bytes = if nat_lt 36 (length bytes) then drop 36 bytes else []

-- two rows
abbrev pub code_rows : (x y : ℕ) → List ℕ → Shape
code_rows x y bytes = Over (code_row (x + 24) y (first_row bytes)) (more_code (x + 38) y (next_row bytes))

-- ---- how long the longest row is, which says how tall a band is

abbrev pub line_of : Entry → ℕ
line_of (Ran here acts cells variables locals items) = here.line
line_of (Faulting here fault cause acts met locals) = fault.line

abbrev pub row_length : (text : List ℕ) → Entry → ℕ
row_length text e = min 36 (length (code_of text (line_of e)))

abbrev pub longest : (text : List ℕ) → List Entry → ℕ
longest text [] = 0
longest text (e ∷ es) = max (row_length text e) (longest text es)
