-- The picture of a run's entries: a column for each statement, and a row for each processor.
use Rattle.std.specs.Prelude.{ℕ, ◌+◌, ◌-◌, nat_eq, nat_lt, ◌&&◌, if◌then◌else◌, List, [], ◌∷◌, ℤ, length, take, drop, codes}
use Rattle.pram_model.specs.Layout.{SharedEntry}
use Rattle.write_rules.specs.declared.fault.Fault.{Fault}
use Rattle.journal.specs.Entries.{Entry, Ran, Faulting}
use Rattle.svg_texts.specs.Plain.{numbered}
use Rattle.svg_texts.specs.Shapes.{Words, Nothing, Letters, Natural, Integer, Then, Shape, Empty, Text, Over, Picture}
use Rattle.pictures.specs.declared.steps.frame.Part.{Part}
use Rattle.pictures.specs.Faults.{fault_line}
use Rattle.pictures.specs.Steps.Bands.{columns_from}
use Rattle.pictures.specs.Steps.Drawn.{first_drawn, last_drawn, last_number}
use Rattle.pictures.specs.Steps.Marks.{ground, met_mark, read_mark, write_mark}
use Rattle.pictures.specs.Steps.Measures.{Frame, bands_end, bands_of, count_drawn, frame_of, picture_height, picture_width}
use Rattle.pictures.specs.Steps.Paints.{note}
use Rattle.pictures.specs.Looks.{plain}

-- ---- what stands above the bands

-- of so many statements: `30`, or `5 to 9 of 30` where others stand before or behind them
abbrev pub count_words : Part → (statements : ℕ) → Words
count_words p n = if nat_eq p.whole n then Natural n
    else Then (Natural (p.skipped + 1)) (Then (numbered (codes " to ") (p.skipped + n)) (numbered (codes " of ") p.whole))

abbrev pub some_statements : Part → (statements : ℕ) → Words
some_statements p n = Then (Letters (codes "statements ")) (count_words p n)

-- of a part that begins behind the run's end none is drawn
abbrev pub statements_front : Part → (statements : ℕ) → Words
statements_front p n =
    if nat_eq n 0 && nat_lt 0 p.whole then numbered (codes "no statement: the run has ") p.whole else some_statements p n

-- which of them are not drawn, and how many
abbrev pub gap_words : Part → (statements : ℕ) → Words
gap_words p n = Then (numbered (codes ", without the ") (n - 112))
    (Then (numbered (codes " from ") (97 + p.skipped)) (numbered (codes " to ") (n - 16 + p.skipped)))

abbrev pub rest_words : Part → (statements : ℕ) → Words
rest_words p n = if nat_lt 112 n then gap_words p n else Nothing

-- which statements, and these words behind it
abbrev pub statements_with : Part → (statements : ℕ) → Words → Shape
statements_with p n rest = Text 12 20 plain (Then (statements_front p n) rest)

abbrev pub statements_line : Part → (statements : ℕ) → Shape
statements_line p n = statements_with p n (rest_words p n)

abbrev pub some_rows : ℕ → Words
some_rows n = numbered (codes "processors ") n

-- 64 rows may be too few
abbrev pub rows_words : ℕ → Words
rows_words n =
    if nat_eq n 0 then Letters (codes "no processor of a pardo")
    else if nat_lt n 64 then some_rows n
    else Letters (codes "64 rows: of those that met at a fault, and of the first others that act")

abbrev pub rows_line : ℕ → Shape
rows_line n = Text 12 38 plain (rows_words n)

-- what is what
abbrev pub key_acts : Shape
key_acts = Over (ground 12 48) (note 78 61 (codes "acts"))

abbrev pub key_reads : Shape
key_reads = Over (read_mark 120 48) (note 154 61 (codes "reads"))

abbrev pub key_writes : Shape
key_writes = Over (write_mark 170 48) (note 234 61 (codes "writes"))

abbrev pub key_met : Shape
key_met = Over (met_mark 284 48) (note 350 61 (codes "met at a fault"))

abbrev pub key_more : Shape
key_more = Over (note 450 61 (codes "+n")) (note 474 61 (codes "n more act, which have no row"))

abbrev pub key : Shape
key = Over key_acts (Over (Over key_reads key_writes) (Over key_met key_more))

abbrev pub lines : Part → (statements rows : ℕ) → Shape
lines p n rows = Over (statements_line p n) (rows_line rows)

abbrev pub head : Part → (statements rows : ℕ) → Shape
head p n rows = Over (lines p n rows) key

-- ---- what stands below them: a fault, and those that met there

abbrev pub behind_blank : ℤ → Words
behind_blank i = Then (Letters (codes " ")) (Integer i)

abbrev pub indices_words : List ℤ → Words
indices_words [] = Nothing
indices_words (i ∷ is) = Then (behind_blank i) (indices_words is)

abbrev pub and_more : ℕ → Words
and_more n = Then (numbered (codes " and ") n) (Letters (codes " more"))

abbrev pub more_met : (count : ℕ) → Words
more_met count = if nat_lt 8 count then and_more (count - 8) else Nothing

-- of those that met the first, and how many more there are
abbrev pub met_words : List ℤ → Words
met_words met = Then (Letters (codes "met: processors")) (Then (indices_words (take 8 met)) (more_met (length met)))

abbrev pub some_met : (y : ℕ) → List ℤ → Shape
some_met y met = Text 12 y plain (met_words met)

abbrev pub met_line : (y : ℕ) → List ℤ → Shape
met_line y [] = Empty
met_line y (i ∷ is) = some_met y (i ∷ is)

abbrev pub fault_lines : List SharedEntry → (y : ℕ) → Fault → List ℤ → Shape
fault_lines layout y f met = Over (fault_line layout y f) (met_line (y + 18) met)

abbrev pub ending_of : List SharedEntry → (y : ℕ) → Entry → Shape
ending_of layout y (Ran here acts cells variables locals items) = Empty
ending_of layout y (Faulting here fault cause acts met locals) = fault_lines layout y fault met

abbrev pub first_ending : List SharedEntry → (y : ℕ) → List Entry → Shape
first_ending layout y [] = Empty
first_ending layout y (e ∷ es) = ending_of layout y e

-- that of the last statement, where alone a run faults
abbrev pub ending : List SharedEntry → (y : ℕ) → List Entry → Shape
ending layout y es = first_ending layout y (drop (length es - 1) es)

-- ---- all of it

abbrev pub table : Frame → List Entry → Shape
table f es = Over (columns_from f 0 1 (first_drawn es)) (columns_from f 96 (last_number es) (last_drawn es))

-- where that begins
abbrev pub foot_line : Frame → (statements : ℕ) → ℕ
foot_line f n = bands_end f (bands_of (count_drawn n)) + 12

abbrev pub foot : Frame → List Entry → Shape
foot f es = ending f.layout (foot_line f (length es)) es

abbrev pub drawing : Frame → List Entry → Shape
drawing f es = Over (head f.part (length es) (length f.rows)) (Over (table f es) (foot f es))

abbrev pub title : Words
title = Letters (codes "A run, statement by statement")

abbrev pub picture_of : Frame → List Entry → Picture
picture_of f es = record {
  title = title;
  wide = picture_width (count_drawn (length es));
  tall = picture_height f (count_drawn (length es));
  shape = drawing f es;
}

-- a picture of these entries, which are that part of a run of that text
abbrev pub picture : List SharedEntry → (text : List ℕ) → Part → List Entry → Picture
picture layout text part es = picture_of (frame_of layout text part es) es

-- ---- of the statements from one number to another

abbrev pub chosen : {A : Type 0} → (from to : ℕ) → List A → List A
chosen from to es = take (to - (from - 1)) (drop (from - 1) es)

abbrev pub part_of : (from whole : ℕ) → Part
part_of from whole = record { skipped = from - 1; whole = whole }

abbrev pub picture_from : List SharedEntry → (text : List ℕ) → List Entry → (from to : ℕ) → Picture
picture_from layout text es from to = picture layout text (part_of from (length es)) (chosen from to es)
