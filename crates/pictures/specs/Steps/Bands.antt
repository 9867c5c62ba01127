-- Bands of columns, one below the other: each begins with the titles of both axes and the names of the rows.
use Rattle.std.specs.Prelude.{ℕ, ◌+◌, ◌-◌, ◌%◌, nat_eq, if◌then◌else◌, List, [], ◌∷◌, ℤ, codes}
use Rattle.journal.specs.Entries.{Entry}
use Rattle.pictures.specs.Steps.Columns.{column}
use Rattle.pictures.specs.Steps.Measures.{Frame, column_at, row_top, rows_top}
use Rattle.pictures.specs.Steps.Paints.{axis, note}
use Rattle.pictures.specs.Looks.{plain}
use Rattle.svg_texts.specs.Shapes.{Integer, Shape, Empty, Text, Over}

-- the titles of the axes, and the row of the one outside pardo
abbrev pub axes : (top : ℕ) → Shape
axes top = Over (axis (top - 26) (codes "statement")) (axis (top - 9) (codes "processor"))

abbrev pub titles : (top : ℕ) → Shape
titles top = Over (axes top) (note 12 (top + 13) (codes "outside"))

-- a processor's name in front of its row
abbrev pub label : (y : ℕ) → ℤ → Shape
label y i = Text 12 y plain (Integer i)

-- where it stands
abbrev pub label_line : (top row : ℕ) → ℕ
label_line top row = row_top top row + 13

-- those from a row on
abbrev pub labels_from : (top row : ℕ) → List ℤ → Shape
labels_from top row [] = Empty
labels_from top row (i ∷ is) = Over (label (label_line top row) i) (labels_from top (row + 1) is)

abbrev pub band_front : (rows : List ℤ) → (top : ℕ) → Shape
band_front rows top = Over (titles top) (labels_from top 1 rows)

-- where a column is the first of its band
abbrev pub front_of : Frame → (j : ℕ) → Shape
front_of f j = if nat_eq (j % 16) 0 then band_front f.rows (rows_top f j) else Empty

abbrev pub with_front : Frame → (j k : ℕ) → Entry → Shape
with_front f j k e = Over (front_of f j) (column f (column_at f j k) e)

-- the columns of statements that are numbered from k on, behind j others
abbrev pub columns_from : Frame → (j k : ℕ) → List Entry → Shape
columns_from f j k [] = Empty
columns_from f j k (e ∷ es) = Over (with_front f j k e) (columns_from f (j + 1) (k + 1) es)
