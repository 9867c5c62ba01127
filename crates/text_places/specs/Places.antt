-- Places of a text: lines and columns, both counted from 1.
use Rattle.std.specs.Prelude.{ℕ, zero, suc, ◌+◌, ◌-◌, ◌==◌, Bool, if◌then◌else◌, List, [], ◌∷◌, take}
use Rattle.std.specs.List.{after_first, before_first}
use Rattle.text_places.specs.declared.place.Place.{Place}

-- a line feed ends a line
abbrev pub ends_line : ℕ → Bool
ends_line b = b == 10

abbrev pub place_at : (line column : ℕ) → Place
place_at line column = record { line = line; column = column }

-- the place behind a byte that stands there
abbrev pub behind : Place → ℕ → Place
behind p b = if ends_line b then place_at (p.line + 1) 1 else place_at p.line (p.column + 1)

-- the place behind these bytes
abbrev pub behind_all : Place → List ℕ → Place
behind_all p [] = p
behind_all p (b ∷ rest) = behind_all (behind p b) rest

-- The place of the byte at an offset, or behind the last byte where there are no more: the first byte stands in column 1 of line 1.
abbrev pub place_of : List ℕ → ℕ → Place
place_of text at = behind_all (place_at 1 1) (take at text)

-- what stands behind the first n lines
abbrev pub behind_lines : ℕ → List ℕ → List ℕ
behind_lines zero text = text
behind_lines (suc n) text = behind_lines n (after_first ends_line text)

-- the bytes of the line of that number, without its line feed
abbrev pub line_text : List ℕ → ℕ → List ℕ
line_text text line = before_first ends_line (behind_lines (line - 1) text)
