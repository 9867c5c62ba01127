-- The picture of a sweep: time against the size, and below it work.
use Rattle.std.specs.Prelude.{ℕ, zero, suc, ◌+◌, ◌-◌, ◌*◌, ◌/◌, max, nat_le, nat_lt, if◌then◌else◌, List, length, codes}
use Rattle.svg_texts.specs.declared.colour.Colour.TheVariants.{Black, Silver}
use Rattle.svg_texts.specs.declared.lettering.Anchor.TheVariants.{Start, End}
use Rattle.svg_texts.specs.declared.lettering.Face.TheVariants as face
use Rattle.svg_texts.specs.Plain.{label, lettered, line, number, numbered}
use Rattle.svg_texts.specs.Shapes.{Shape, Empty, Text, Over, Words, Letters, Then, Picture}
use Rattle.sweeps.specs.declared.measure.Measure.{Measure}
use Rattle.sweeps.specs.declared.measure.Measure.TheVariants.{Time, Work}
use Rattle.sweeps.specs.declared.size_row.SizeRow.{SizeRow}
use Rattle.pictures.specs.declared.sizes.frame.Frame.{Frame}
use Rattle.pictures.specs.declared.sizes.labels.Kind.TheVariants.{Sizes, Numbers}
use Rattle.pictures.specs.Sizes.Labels.{labels}
use Rattle.pictures.specs.Sizes.Marks.{curve, marks}
use Rattle.pictures.specs.Sizes.Places.{drawn, high_place, low_place, most_of, top, y_of}

-- ---- a panel

abbrev pub frame_of : Measure → (base : ℕ) → List SizeRow → Frame
frame_of m base rows =
    record { measure = m; most = most_of m rows; low = low_place rows; high = high_place rows; base = base }

abbrev pub heading : Measure → List ℕ
heading Time = codes "time T"
heading Work = codes "work W"

-- the title, and the two axes
abbrev pub axes : Frame → Shape
axes f = Over (label 168 (f.base - 172) Start face.Bold (heading f.measure))
    (Over (line 168 (f.base - 158) 168 f.base Black) (line 168 f.base 672 f.base Black))

-- a round number with its line
abbrev pub tick_line : (y n : ℕ) → Shape
tick_line y n = Over (line 162 y 664 y Silver) (number 156 (y + 4) End face.Plain n)

-- a fifth of what stands at the upper end
abbrev pub step : Frame → ℕ
step f = max 1 (top f.most / 5)

abbrev pub tick : Frame → ℕ → Shape
tick f n = if nat_le n (top f.most) then tick_line (y_of f n) n else Empty

-- those from step k on
abbrev pub ticks_from : Frame → (k more : ℕ) → Shape
ticks_from f k zero = Empty
ticks_from f k (suc more) = Over (tick f (k * step f)) (ticks_from f (k + 1) more)

abbrev pub ticks : Frame → Shape
ticks f = ticks_from f 0 6

-- what the sizes are called, at the end of their axis
abbrev pub name_label : List ℕ → Frame → Shape
name_label name f = label 680 (f.base + 4) Start face.Plain name

abbrev pub ground : List ℕ → Frame → Shape
ground name f = Over (ticks f) (Over (axes f) (name_label name f))

abbrev pub all_labels : Frame → List SizeRow → Shape
all_labels f rows = Over (labels Sizes f 0 rows) (labels Numbers f 0 rows)

-- what is drawn of the rows
abbrev pub figure : List ℕ → Frame → List SizeRow → Shape
figure name f rows = Over (curve f rows) (Over (marks name f rows) (all_labels f rows))

abbrev pub panel : List ℕ → Frame → List SizeRow → Shape
panel name f rows = Over (ground name f) (figure name f rows)

-- ---- all of it

abbrev pub first_words : ℕ → Words
first_words n = Then (numbered (codes "64 of ") n) (Letters (codes " sizes"))

abbrev pub first_label : ℕ → Shape
first_label n = Text 168 20 (lettered Start face.Plain) (first_words n)

-- that not all sizes are drawn
abbrev pub cut : ℕ → Shape
cut n = if nat_lt 64 n then first_label n else Empty

abbrev pub panels : List ℕ → List SizeRow → Shape
panels name rows = Over (panel name (frame_of Time 220 rows) rows) (panel name (frame_of Work 450 rows) rows)

abbrev pub shape_of : List ℕ → ℕ → List SizeRow → Shape
shape_of name n rows = Over (cut n) (panels name rows)

abbrev pub title : List ℕ
title = codes "What a program costs at several sizes"

-- these rows of so many
abbrev pub picture_of : List ℕ → ℕ → List SizeRow → Picture
picture_of name n rows = record { title = Letters title; wide = 760; tall = 500; shape = shape_of name n rows }

abbrev pub picture : List ℕ → List SizeRow → Picture
picture name rows = picture_of name (length rows) (drawn rows)
