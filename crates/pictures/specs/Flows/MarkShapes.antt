-- How marks are drawn.
use Rattle.std.specs.Prelude.{ℕ, ◌+◌, ◌-◌, ◌*◌, ◌/◌, min, nat_lt, if◌then◌else◌, List, [], ◌∷◌, ℤ, length, take, drop, codes, Bool}
use Rattle.std.specs.Fmt.{signed_decimal}
use Rattle.svg_texts.specs.Shapes.{Shape, Empty, Drawn, Text, Over, Words, Nothing, Letters, Integer, Then}
use Rattle.svg_texts.specs.declared.form.Form.TheVariants as form
use Rattle.svg_texts.specs.declared.lettering.Anchor.{Anchor}
use Rattle.svg_texts.specs.declared.lettering.Anchor.TheVariants as anchor
use Rattle.svg_texts.specs.declared.lettering.Face.{Face}
use Rattle.svg_texts.specs.declared.lettering.Face.TheVariants as face
use Rattle.journal.specs.Entries.{Act}
use Rattle.text_places.specs.Places.{line_text}
use Rattle.pictures.specs.Acts.{acts_in}
use Rattle.pictures.specs.Flows.Drawing.{Column}
use Rattle.svg_texts.specs.Plain.{lettered}
use Rattle.pictures.specs.Looks.{firm, upwards, white}
use Rattle.pictures.specs.Flows.Marks.{Arrow, Node, Reading, arrows, nodes, readings, value_in}
use Rattle.pictures.specs.Flows.Places.{x_of, y_of}

-- the shape of each item, the first one behind the others
abbrev pub each : {X : Type 0} → (X → Shape) → List X → Shape
each shape [] = Empty
each shape (x ∷ xs) = Over (shape x) (each shape xs)

-- ---- texts of a program

-- what stands in the line of an offset, from there on
abbrev pub source_at : List ℕ → (offset : ℕ) → List ℕ
source_at text offset = line_text (drop offset text) 1

-- that more stands there than has room
abbrev pub source_cut : List ℕ → Words
source_cut source = if nat_lt 24 (length source) then Letters (codes " ..") else Nothing

-- upwards, and no more than has room
abbrev pub source_shape : (x : ℕ) → List ℕ → Shape
source_shape x source = Text (x + 4) 250 upwards (Then (Letters (take 24 source)) (source_cut source))

-- ---- marks

-- 7 pixels a letter
abbrev pub value_width : ℤ → ℕ
value_width v = 7 * length (signed_decimal v) + 8

-- a long value is written small
abbrev pub value_face : ℤ → Face
value_face v = if nat_lt 76 (value_width v) then face.Tiny else face.Plain

abbrev pub value_shape : (x y : ℕ) → Anchor → ℤ → Shape
value_shape x y side v = Text x y (lettered side (value_face v)) (Integer v)

abbrev pub outline : (x y wide : ℕ) → Shape
outline x y wide = Drawn (form.Rectangle (x - wide / 2) (y - 9) wide 18) white

-- a value that was written, in a box
abbrev pub box : (x y wide : ℕ) → ℤ → Shape
box x y wide v = Over (outline x y wide) (value_shape x (y + 4) anchor.Middle v)

abbrev pub node_shape : List ℕ → Node → Shape
node_shape rows n = box (x_of n.column) (y_of rows n.cell) (min 76 (value_width n.value)) n.value

-- from the column before, behind its boxes
abbrev pub arrow_shape : List ℕ → Arrow → Shape
arrow_shape rows a =
    Drawn (form.Line (x_of a.column - 60) (y_of rows a.from) (x_of a.column) (y_of rows a.to)) (firm a.dashed)

abbrev pub reading_shape : List ℕ → Reading → Shape
reading_shape rows r = Drawn (form.Circle (x_of r.column) (y_of rows r.cell)) white

-- the lines first, so that boxes stand in front of them
abbrev pub marks_of : List ℕ → (column : ℕ) → List Bool → (ℕ → ℤ) → List Act → Shape
marks_of rows column aside value acts = Over (each (arrow_shape rows) (arrows rows column aside acts))
    (Over (each (node_shape rows) (nodes rows column value acts)) (each (reading_shape rows) (readings rows column acts)))

abbrev pub marks_shape : List ℕ → (column : ℕ) → Column → Shape
marks_shape rows column c = marks_of rows column c.aside (value_in (acts_in c.entry) c.written) (acts_in c.entry)
