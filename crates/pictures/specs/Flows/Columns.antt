-- The columns of statements: what stands above one, its marks, and what is drawn of a fault.
use Rattle.std.specs.Prelude.{ℕ, ◌+◌, ◌-◌, nat_lt, if◌then◌else◌, List, [], ◌∷◌, ℤ, length, take, codes}
use Rattle.svg_texts.specs.Shapes.{Shape, Empty, Drawn, Text, Over, Words, Letters, Natural, Then}
use Rattle.svg_texts.specs.declared.form.Form.TheVariants as form
use Rattle.svg_texts.specs.declared.lettering.Anchor.TheVariants as anchor
use Rattle.svg_texts.specs.declared.lettering.Face.TheVariants as face
use Rattle.pram_model.specs.Layout.{SharedEntry}
use Rattle.pram_values.specs.declared.place.Place.{Place}
use Rattle.pram_values.specs.declared.place.Place.TheVariants as place
use Rattle.program_texts.specs.Shown.{spaced}
use Rattle.journal.specs.Entries.{Entry, Ran, Faulting}
use Rattle.write_rules.specs.declared.fault.Fault.{Fault}
use Rattle.pictures.specs.Faults.{fault_line}
use Rattle.pictures.specs.Flows.Choice.{location_in}
use Rattle.pictures.specs.Flows.Drawing.{Column}
use Rattle.svg_texts.specs.Plain.{lettered, number, numbered}
use Rattle.pictures.specs.Looks.{heavy, plain}
use Rattle.pictures.specs.Flows.Marks.{has_read}
use Rattle.pictures.specs.Flows.MarkShapes.{marks_shape, source_at, source_shape}
use Rattle.pictures.specs.Flows.Places.{x_of, y_at, y_of}

-- ---- the head of a column

abbrev pub number_shape : (x n : ℕ) → Shape
number_shape x n = number x 272 anchor.Middle face.Bold n

abbrev pub line_shape : (x line : ℕ) → Shape
line_shape x line = Text x 286 (lettered anchor.Middle face.Plain) (numbered (codes "line ") line)

abbrev pub entry_line : (x : ℕ) → Entry → Shape
entry_line x e = line_shape x (location_in e).line

abbrev pub place_shape : (x n : ℕ) → Entry → Shape
place_shape x n e = Over (number_shape x n) (entry_line x e)

abbrev pub line_source : List ℕ → (x : ℕ) → Entry → Shape
line_source text x e = source_shape x (source_at text (location_in e).offset)

abbrev pub heading_at : List ℕ → (x n : ℕ) → Entry → Shape
heading_at text x n e = Over (place_shape x n e) (line_source text x e)

abbrev pub heading : List ℕ → (column n : ℕ) → Entry → Shape
heading text column n e = heading_at text (x_of column) n e

-- ---- faults

-- around the middle of something, 28 pixels to each side
abbrev pub frame : (x top tall : ℕ) → Shape
frame x top tall = Drawn (form.Rectangle (x - 28) top 56 tall) heavy

-- a frame in the row of a cell, where it has one
abbrev pub cell_frame : List ℕ → (x cell : ℕ) → Shape
cell_frame rows x cell = if has_read rows cell then frame x (y_of rows cell - 9) 18 else Empty

abbrev pub place_frame : List ℕ → (x : ℕ) → Place → Shape
place_frame rows x place.All = Empty
place_frame rows x (place.Processor i) = Empty
place_frame rows x (place.Cell c) = cell_frame rows x c

-- how many more met than are named
abbrev pub met_cut : List ℤ → Words
met_cut met =
    if nat_lt 12 (length met) then Then (Letters (codes " and ")) (Then (Natural (length met - 12)) (Letters (codes " more met there")))
    else Letters (codes " met there")

abbrev pub met_words : List ℤ → Words
met_words met = Then (Letters (codes "processors")) (Then (Letters (spaced (take 12 met))) (met_cut met))

abbrev pub some_met : (y : ℕ) → List ℤ → Shape
some_met y met = Text 12 y plain (met_words met)

-- who met, below the fault
abbrev pub met_shape : (y : ℕ) → List ℤ → Shape
met_shape y [] = Empty
met_shape y (i ∷ met) = some_met y (i ∷ met)

abbrev pub head_frame : (x : ℕ) → Shape
head_frame x = frame x 258 34

-- a frame around the head, and one at the cell
abbrev pub frames : List ℕ → (x : ℕ) → Fault → Shape
frames rows x f = Over (head_frame x) (place_frame rows x f.place)

-- what was wrong, and who met
abbrev pub fault_lines : List SharedEntry → (y : ℕ) → Fault → List ℤ → Shape
fault_lines layout y f met = Over (fault_line layout y f) (met_shape (y + 18) met)

abbrev pub fault_marks : List SharedEntry → List ℕ → (x y : ℕ) → Fault → List ℤ → Shape
fault_marks layout rows x y f met = Over (frames rows x f) (fault_lines layout y f met)

abbrev pub fault_part : List SharedEntry → List ℕ → (x y : ℕ) → Entry → Shape
fault_part layout rows x y (Ran here acts cells variables locals printed) = Empty
fault_part layout rows x y (Faulting here fault cause acts met locals) = fault_marks layout rows x y fault met

-- ---- columns

-- where the line below the rows stands
abbrev pub bottom : List ℕ → ℕ
bottom rows = y_at (length rows) + 10

abbrev pub column_fault : List SharedEntry → List ℕ → (column : ℕ) → Entry → Shape
column_fault layout rows column e = fault_part layout rows (x_of column) (bottom rows) e

abbrev pub column_shape : List SharedEntry → List ℕ → List ℕ → (column : ℕ) → Column → Shape
column_shape layout text rows column c = Over (heading text column c.number c.entry)
    (Over (marks_shape rows column c) (column_fault layout rows column c.entry))
