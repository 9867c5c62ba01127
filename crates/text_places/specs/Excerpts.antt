-- How a place of a text is shown: where it is, its line, and a caret below it.
use Rattle.std.specs.Prelude.{ℕ, ◌-◌, ◌==◌, ◌&&◌, ◌||◌, if◌then◌else◌, nat_le, nat_lt, List, [], ◌∷◌, ◌++◌, map, take, length}
use Rattle.std.specs.Prelude.{slice_index, codes, decimal}
use Rattle.text_places.specs.declared.place.Place.{Place}
use Rattle.text_places.specs.Escaped.{escaped}
use Rattle.text_places.specs.Places.{line_text, place_of}

-- A byte as it is shown: a printable ASCII character and a tab as they are, and `?` for any other, so that nothing in a text can steer a
-- terminal.
abbrev pub shown_byte : ℕ → ℕ
shown_byte b = if b == 9 || (nat_le 32 b && nat_lt b 127) then b else 63

abbrev pub shown : List ℕ → List ℕ
shown = map shown_byte

-- what stands in the caret's line below a byte: a tab below a tab, and else a space
abbrev pub blank_byte : ℕ → ℕ
blank_byte b = if b == 9 then 9 else 32

-- a line without the carriage return at its end
abbrev pub without_return : List ℕ → List ℕ
without_return bytes =
    if nat_lt 0 (length bytes) && (slice_index bytes (length bytes - 1) == 13) then take (length bytes - 1) bytes else bytes

-- the line of that number, as it is shown
abbrev pub shown_line : List ℕ → ℕ → List ℕ
shown_line text line = shown (without_return (line_text text line)) ++ 10 ∷ []

-- a caret below a column of a line
abbrev pub caret_line : List ℕ → ℕ → List ℕ
caret_line bytes column = map blank_byte (take (column - 1) bytes) ++ codes "^\n"

-- `:4:7`
abbrev pub place_numbers : Place → List ℕ
place_numbers p = codes ":" ++ (decimal p.line ++ (codes ":" ++ (decimal p.column ++ codes "\n")))

-- `sum.pram:4:7`
abbrev pub place_line : List ℕ → Place → List ℕ
place_line name p = escaped name ++ place_numbers p

-- the line of a place, and below it the caret
abbrev pub marked_line : List ℕ → Place → List ℕ
marked_line text p = shown_line text p.line ++ caret_line (line_text text p.line) p.column

-- where the byte of an offset stands in the text of that name, its line, and the caret below it
abbrev pub excerpt : (name text : List ℕ) → ℕ → List ℕ
excerpt name text at = place_line name (place_of text at) ++ marked_line text (place_of text at)

-- `:4`
abbrev pub line_number : ℕ → List ℕ
line_number line = codes ":" ++ (decimal line ++ codes "\n")

-- `sum.pram:4`
abbrev pub line_place : List ℕ → ℕ → List ℕ
line_place name line = escaped name ++ line_number line

-- which line of the text of that name is meant, and the line
abbrev pub line_excerpt : (name text : List ℕ) → ℕ → List ℕ
line_excerpt name text line = line_place name line ++ shown_line text line
