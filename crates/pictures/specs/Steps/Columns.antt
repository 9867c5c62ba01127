-- The column of a statement: its line of the program, its number and the line's, and below them its processors, each in its row.
use Rattle.std.specs.Prelude.{ℕ, ◌+◌, ◌-◌, nat_eq, nat_lt, if◌then◌else◌, List, [], ◌∷◌, Option, Some, None, ℤ, length, codes}
use Rattle.pram_model.specs.Layout.{SharedEntry}
use Rattle.journal.specs.Entries.{Act, Entry}
use Rattle.pictures.specs.Acts.{acts_in}
use Rattle.pictures.specs.Steps.Drawn.{met_in, missing, place_of}
use Rattle.pictures.specs.Steps.Marks.{box, outline}
use Rattle.pictures.specs.Steps.Measures.{Column, Frame, row_top}
use Rattle.pictures.specs.Looks.{plain}
use Rattle.pictures.specs.Steps.ProgramLines.{code_of, code_rows, line_of}
use Rattle.svg_texts.specs.Plain.{numbered}
use Rattle.svg_texts.specs.Shapes.{Natural, Shape, Empty, Text, Over}

-- `5`, and below it `line 12`
abbrev pub number : Column → Shape
number c = Text c.x (c.y - 26) plain (Natural c.number)

abbrev pub line_number : Column → (line : ℕ) → Shape
line_number c line = Text c.x (c.y - 9) plain (numbered (codes "line ") line)

abbrev pub numbers : Column → (line : ℕ) → Shape
numbers c line = Over (number c) (line_number c line)

abbrev pub heading : (text : List ℕ) → Column → (line : ℕ) → Shape
heading text c line = Over (code_rows c.x (c.y - 42) (code_of text line)) (numbers c line)

-- ---- those that act

-- in the row behind so many others, if there is one
abbrev pub act_at : List SharedEntry → (rows : List ℤ) → Column → (before : ℕ) → Act → Shape
act_at layout rows c before a = if nat_lt before (length rows) then box layout c.x (row_top c.y (before + 1)) a else Empty

-- the one outside pardo in row 0
abbrev pub outside : List SharedEntry → Column → Act → Shape
outside layout c a = box layout c.x (row_top c.y 0) a

abbrev pub act_drawn_by : List SharedEntry → (rows : List ℤ) → Column → Act → Option ℤ → Shape
act_drawn_by layout rows c a None = outside layout c a
act_drawn_by layout rows c a (Some i) = act_at layout rows c (place_of rows i) a

abbrev pub act_drawn : List SharedEntry → (rows : List ℤ) → Column → Act → Shape
act_drawn layout rows c a = act_drawn_by layout rows c a a.processor

abbrev pub acts_drawn : List SharedEntry → (rows : List ℤ) → Column → List Act → Shape
acts_drawn layout rows c [] = Empty
acts_drawn layout rows c (a ∷ acts) = Over (act_drawn layout rows c a) (acts_drawn layout rows c acts)

-- ---- those that met

abbrev pub met_at : (rows : List ℤ) → Column → (before : ℕ) → ℤ → Shape
met_at rows c before i = if nat_lt before (length rows) then outline c.x (row_top c.y (before + 1)) i else Empty

abbrev pub met_drawn : (rows : List ℤ) → Column → ℤ → Shape
met_drawn rows c i = met_at rows c (place_of rows i) i

abbrev pub all_met : (rows : List ℤ) → Column → List ℤ → Shape
all_met rows c [] = Empty
all_met rows c (i ∷ is) = Over (met_drawn rows c i) (all_met rows c is)

-- ---- how many more act, below the rows: `+12`

abbrev pub more_at : (x y count : ℕ) → Shape
more_at x y count = Text x y plain (numbered (codes "+") count)

abbrev pub more_acting : (rows : ℕ) → Column → (count : ℕ) → Shape
more_acting rows c count = if nat_eq count 0 then Empty else more_at c.x (row_top c.y (rows + 1) + 13) count

-- of those that act, how many have no row
abbrev pub without_row : (rows : List ℤ) → Column → List Act → Shape
without_row rows c acts = more_acting (length rows) c (missing rows acts)

-- ---- all of it

abbrev pub processors : List SharedEntry → (rows : List ℤ) → Column → List Act → List ℤ → Shape
processors layout rows c acts met = Over (acts_drawn layout rows c acts) (Over (all_met rows c met) (without_row rows c acts))

abbrev pub column : Frame → Column → Entry → Shape
column f c e = Over (heading f.text c (line_of e)) (processors f.layout f.rows c (acts_in e) (met_in e))
