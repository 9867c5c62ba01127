-- How a processor is drawn in the column of a statement: a box for one that acted, in it a mark for its reads and one for its write, and
-- an outline and the word around one that met others at a fault.
use Rattle.std.specs.Prelude.{ℕ, ◌+◌, List, [], ◌∷◌, Option, Some, None, ℤ, codes}
use Rattle.pram_model.specs.Layout.{SharedEntry}
use Rattle.program_texts.specs.Shown.{cell_text}
use Rattle.journal.specs.Entries.{Act}
use Rattle.svg_texts.specs.declared.colour.Colour.{Colour}
use Rattle.svg_texts.specs.declared.colour.Colour.TheVariants as colour
use Rattle.svg_texts.specs.declared.form.Form.TheVariants as form
use Rattle.svg_texts.specs.Shapes.{Words, Nothing, Letters, Integer, Then, Shape, Empty, Drawn, Titled, Over}
use Rattle.svg_texts.specs.Plain.{filled}
use Rattle.pictures.specs.Steps.Paints.{note, white_note}
use Rattle.pictures.specs.Looks.{heavy}

-- ---- what a box says where it is pointed at: `processor 3 reads a[1] a[3] writes b[2]`

abbrev pub who_words : Option ℤ → Words
who_words None = Letters (codes "outside pardo")
who_words (Some i) = Then (Letters (codes "processor ")) (Integer i)

abbrev pub cell_behind : List SharedEntry → ℕ → Words
cell_behind layout c = Then (Letters (codes " ")) (Letters (cell_text layout c))

abbrev pub cells_words : List SharedEntry → List ℕ → Words
cells_words layout [] = Nothing
cells_words layout (c ∷ cs) = Then (cell_behind layout c) (cells_words layout cs)

abbrev pub reads_words : List SharedEntry → List ℕ → Words
reads_words layout [] = Nothing
reads_words layout (c ∷ cs) = Then (Letters (codes " reads")) (cells_words layout (c ∷ cs))

abbrev pub written_words : List SharedEntry → ℕ → Words
written_words layout c = Then (Letters (codes " writes ")) (Letters (cell_text layout c))

abbrev pub write_words : List SharedEntry → Option ℕ → Words
write_words layout None = Nothing
write_words layout (Some c) = written_words layout c

abbrev pub accesses_words : List SharedEntry → Act → Words
accesses_words layout a = Then (reads_words layout a.reads) (write_words layout a.write)

abbrev pub title_words : List SharedEntry → Act → Words
title_words layout a = Then (who_words a.processor) (accesses_words layout a)

-- ---- marks, by their letters as by their colours: r on blue, w on orange

-- a field of this colour
abbrev pub field : (left top : ℕ) → Colour → Shape
field left top c = Drawn (form.Rectangle left top 26 14) (filled c)

abbrev pub read_mark : (x y : ℕ) → Shape
read_mark x y = Over (field (x + 2) (y + 2) colour.Blue) (white_note (x + 12) (y + 13) (codes "r"))

abbrev pub write_mark : (x y : ℕ) → Shape
write_mark x y = Over (field (x + 32) (y + 2) colour.Orange) (note (x + 40) (y + 13) (codes "w"))

-- where any cell was read
abbrev pub read_part : (x y : ℕ) → List ℕ → Shape
read_part x y [] = Empty
read_part x y (c ∷ cs) = read_mark x y

-- where one was written
abbrev pub write_part : (x y : ℕ) → Option ℕ → Shape
write_part x y None = Empty
write_part x y (Some c) = write_mark x y

abbrev pub marks : (x y : ℕ) → Act → Shape
marks x y a = Over (read_part x y a.reads) (write_part x y a.write)

-- ---- boxes

abbrev pub ground : (x y : ℕ) → Shape
ground x y = Drawn (form.Rectangle x y 60 18) (filled colour.Light)

abbrev pub marked : (x y : ℕ) → Act → Shape
marked x y a = Over (ground x y) (marks x y a)

abbrev pub box : List SharedEntry → (x y : ℕ) → Act → Shape
box layout x y a = Titled (title_words layout a) (marked x y a)

-- ---- around one that met others, and the word in it

abbrev pub frame : (x y : ℕ) → Shape
frame x y = Drawn (form.Rectangle x y 60 18) heavy

abbrev pub met_mark : (x y : ℕ) → Shape
met_mark x y = Over (frame x y) (note (x + 33) (y + 13) (codes "met"))

-- what it says where it is pointed at
abbrev pub who_met : ℤ → Words
who_met i = Then (Letters (codes "processor ")) (Then (Integer i) (Letters (codes " met")))

abbrev pub outline : (x y : ℕ) → ℤ → Shape
outline x y i = Titled (who_met i) (met_mark x y)
