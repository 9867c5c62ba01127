-- The rows and the columns as they are written, whose text is that of the facts.
use Rattle.std.specs.Prelude.{ℕ, ◌+◌, List, [], ◌∷◌, ℤ, length}
use Rattle.svg_texts.specs.Shapes.{Shape, Empty, Over}
use Rattle.pram_model.specs.Layout.{SharedEntry}
use Rattle.pictures.specs.Flows.Columns.{column_shape}
use Rattle.pictures.specs.Flows.Drawing.{Column, Drawing}
use Rattle.pictures.specs.Flows.Places.{picture_width, y_at}
use Rattle.pictures.specs.Flows.Rows.{row_head}

-- those of cells from row k on
abbrev pub row_heads : List SharedEntry → (wide : ℕ) → (value : ℕ → ℤ) → (k : ℕ) → List ℕ → Shape
row_heads layout wide value k [] = Empty
row_heads layout wide value k (c ∷ cells) = Over (row_head layout wide (y_at k) c (value c)) (row_heads layout wide value (k + 1) cells)

-- counted from j on
abbrev pub columns : List SharedEntry → List ℕ → (rows : List ℕ) → (j : ℕ) → List Column → Shape
columns layout text rows j [] = Empty
columns layout text rows j (c ∷ cs) = Over (column_shape layout text rows j c) (columns layout text rows (j + 1) cs)

-- the values are those before the first statement that is drawn
abbrev pub table : List SharedEntry → List ℕ → Drawing → (rows : List ℕ) → Shape
table layout text d rows =
    Over (row_heads layout (picture_width (length d.columns)) d.before 0 rows) (columns layout text rows 1 d.columns)
