-- The picture of what passes through shared memory in a run: a row for each cell, and a column for each statement.
use Rattle.std.specs.Prelude.{ℕ, ◌-◌, min, nat_le, nat_lt, ◌&&◌, if◌then◌else◌, List, [], ◌∷◌, ◌++◌, ℤ, length, take, codes}
use Rattle.std.specs.Prelude.{Bool, true, false}
use Rattle.svg_texts.specs.Shapes.{Shape, Drawn, Text, Over, Words, Nothing, Letters, Natural, Then}
use Rattle.svg_texts.specs.Shapes as svg
use Rattle.svg_texts.specs.declared.form.Form.{Form}
use Rattle.svg_texts.specs.declared.form.Form.TheVariants as form
use Rattle.svg_texts.specs.declared.paint.Paint.{Paint}
use Rattle.pram_model.specs.Layout.{SharedEntry, total_size}
use Rattle.journal.specs.Entries.{Entry}
use Rattle.pictures.specs.declared.flows.spans.CellSpan.{CellSpan}
use Rattle.pictures.specs.Flows.Cells.{rows_and_next}
use Rattle.pictures.specs.Flows.Drawing.{Drawing, drawing, entries_of}
use Rattle.pictures.specs.Flows.Facts.{Fact, columns_facts, fact_shape, row_facts}
use Rattle.pictures.specs.Looks.{firm, heavy, plain, white}
use Rattle.pictures.specs.Flows.MarkShapes.{each}
use Rattle.pictures.specs.Flows.Places.{picture_height, picture_width}

-- ---- what is drawn, in words

abbrev pub from_words : (from : ℕ) → Words
from_words from = Then (Letters (codes " from ")) (Natural from)

-- of none the first number alone
abbrev pub from_to_words : (from last : ℕ) → Words
from_to_words from last =
    if nat_lt last from then from_words from
    else Then (Letters (codes " from ")) (Then (Natural from) (Then (Letters (codes " to ")) (Natural last)))

-- between which numbers, where not all are asked for
abbrev pub range_words : (from to statements : ℕ) → Words
range_words from to n = if nat_le from 1 && nat_le n to then Nothing else from_to_words from (min to n)

-- how many have no room
abbrev pub statement_cut : (columns touching : ℕ) → Words
statement_cut columns touching =
    if nat_lt columns touching
    then Then (Letters (codes ", without ")) (Then (Natural (touching - columns)) (Letters (codes " for which there is no room")))
    else Nothing

-- `17 statements, 5 of them drawn: those that touch shared memory`
abbrev pub statements_words : (n columns : ℕ) → Words
statements_words n columns = Then (Natural n) (Then (Letters (codes " statements, ")) (Then (Natural columns)
    (Letters (codes " of them drawn: those that touch shared memory"))))

abbrev pub statement_words : (from to n columns touching : ℕ) → Words
statement_words from to n columns touching =
    Then (statements_words n columns) (Then (range_words from to n) (statement_cut columns touching))

abbrev pub statement_line : (from to n columns touching : ℕ) → Shape
statement_line from to n columns touching = Text 12 20 plain (statement_words from to n columns touching)

-- which cells are drawn, where more are touched too
abbrev pub cell_cut : (found : ℕ) → List ℕ
cell_cut found =
    if nat_lt 64 found then codes "the first that these statements touch, and that of a fault" else codes "those that these statements touch"

-- that cells of some declarations alone are drawn
abbrev pub only_words : List CellSpan → (declarations : ℕ) → Words
only_words [] n = Nothing
only_words (s ∷ ss) n = Then (Letters (codes ", in ")) (Then (Natural (length (s ∷ ss))) (Then (Letters (codes " of "))
    (Then (Natural n) (Letters (codes " declarations")))))

-- `16 cells, 8 of them drawn, 8 not: those that these statements touch`
abbrev pub cells_words : (cells rows found : ℕ) → Words
cells_words cells rows found = Then (Natural cells) (Then (Letters (codes " cells, ")) (Then (Natural rows)
    (Then (Letters (codes " of them drawn, ")) (Then (Natural (cells - rows)) (Then (Letters (codes " not: "))
    (Letters (cell_cut found)))))))

abbrev pub cell_line : List SharedEntry → List CellSpan → (rows found : ℕ) → Shape
cell_line layout only rows found =
    Text 12 38 plain (Then (cells_words (total_size layout) rows found) (only_words only (length layout)))

-- ---- what is what

-- a form, and what it means
abbrev pub meaning : Form → Paint → (x y : ℕ) → (words : List ℕ) → Shape
meaning form paint x y words = Over (Drawn form paint) (Text x y plain (Letters words))

abbrev pub seven_key : Shape
seven_key = meaning (form.Rectangle 12 48 22 18) white 19 61 (codes "7")

abbrev pub box_key : Shape
box_key = Over seven_key (Text 40 61 plain (Letters (codes "written, with the new value")))

abbrev pub line_key : Shape
line_key = meaning (form.Line 220 57 250 57) (firm false) 256 61 (codes "from a cell that the writer read")

abbrev pub ring_key : Shape
ring_key = meaning (form.Circle 456 57) white 466 61 (codes "read alone")

abbrev pub fault_key : Shape
fault_key = meaning (form.Rectangle 548 48 22 18) heavy 578 61 (codes "fault")

abbrev pub dashed_key : Shape
dashed_key = meaning (form.Line 12 80 46 80) (firm true) 54 84 (codes "dashed: for a subscript alone")

abbrev pub read_key : Shape
read_key = Over line_key ring_key

abbrev pub last_key : Shape
last_key = Over fault_key dashed_key

abbrev pub key : Shape
key = Over box_key (Over read_key last_key)

-- ---- all of it

-- what stands above the rows
abbrev pub head : List SharedEntry → List CellSpan → (n from to columns touching rows found : ℕ) → Shape
head layout only n from to columns touching rows found =
    Over (statement_line from to n columns touching) (Over (cell_line layout only rows found) key)

-- by the cells that were found
abbrev pub counts : List SharedEntry → List CellSpan → Drawing → (found : List ℕ) → Shape
counts layout only d found =
    head layout only d.count d.from d.to (length d.columns) d.touching (length (take 64 found)) (length found)

-- of the cells that have a row: the values are those before the first statement that is drawn
abbrev pub drawing_facts : Drawing → (rows : List ℕ) → List Fact
drawing_facts d rows = row_facts d.before 0 rows ++ columns_facts rows 1 d.columns

abbrev pub drawn_shape : List SharedEntry → List ℕ → Drawing → (rows : List ℕ) → Shape
drawn_shape layout text d rows =
    each (fact_shape layout text rows (picture_width (length d.columns))) (drawing_facts d rows)

abbrev pub title : Words
title = Letters (codes "The flow of data through shared memory")

-- what stands before the shapes
abbrev pub front : Drawing → (found : List ℕ) → List ℕ
front d found = svg.picture_front title (picture_width (length d.columns)) (picture_height (length (take 64 found)))

abbrev pub picture_of : List SharedEntry → List ℕ → List CellSpan → Drawing → (found : List ℕ) → svg.Picture
picture_of layout text only d found = record {
  title = title;
  wide = picture_width (length d.columns);
  tall = picture_height (length (take 64 found));
  shape = Over (counts layout only d found) (drawn_shape layout text d (take 64 found));
}

abbrev pub picture : List SharedEntry → List ℕ → List CellSpan → Drawing → svg.Picture
picture layout text only d = picture_of layout text only d (rows_and_next only (entries_of d.columns))

-- of the statements of a run from one number to another
abbrev pub flow : List SharedEntry → List ℕ → (Entry → List Bool) → List ℤ → List Entry → List CellSpan → (from to : ℕ) → svg.Picture
flow layout text aside opening es only from to = picture layout text only (drawing aside opening es from to)
