-- The rows of cells.
use Rattle.std.specs.Prelude.{ℕ, ◌+◌, ◌-◌, List, ℤ}
use Rattle.svg_texts.specs.Shapes.{Shape, Text, Over, Letters}
use Rattle.svg_texts.specs.Plain.{line}
use Rattle.svg_texts.specs.declared.colour.Colour.TheVariants as colour
use Rattle.svg_texts.specs.declared.lettering.Anchor.TheVariants as anchor
use Rattle.pram_model.specs.Layout.{SharedEntry}
use Rattle.program_texts.specs.Shown.{cell_text}
use Rattle.pictures.specs.Looks.{plain}
use Rattle.pictures.specs.Flows.MarkShapes.{value_shape}

-- a line along the row
abbrev pub wire : (y wide : ℕ) → Shape
wire y wide = line 198 y (wide - 16) y colour.Grey

-- a cell's name, and its value before
abbrev pub row_name : List SharedEntry → (y cell : ℕ) → Shape
row_name layout y cell = Text 12 y plain (Letters (cell_text layout cell))

abbrev pub row_words : List SharedEntry → (y cell : ℕ) → ℤ → Shape
row_words layout y cell v = Over (row_name layout y cell) (value_shape 192 y anchor.End v)

abbrev pub row_head : List SharedEntry → (wide y cell : ℕ) → ℤ → Shape
row_head layout wide y cell v = Over (wire y wide) (row_words layout (y + 4) cell v)
