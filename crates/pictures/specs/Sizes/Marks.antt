-- The marks of a panel, and the line through its circles.
use Rattle.std.specs.Prelude.{ℕ, ◌+◌, ◌-◌, List, [], ◌∷◌}
use Rattle.svg_texts.specs.declared.colour.Colour.TheVariants.{Black, White}
use Rattle.svg_texts.specs.declared.form.Form.TheVariants.{Rectangle, Circle}
use Rattle.svg_texts.specs.Plain.{line, outlined}
use Rattle.svg_texts.specs.Shapes.{Shape, Empty, Drawn, Through, Titled, Over, Points, NoPoint, At, Both}
use Rattle.sweeps.specs.declared.size_row.Ending.{Ending}
use Rattle.sweeps.specs.declared.size_row.Ending.TheVariants.{Ended, GoesOn, Faulted, Refused}
use Rattle.sweeps.specs.declared.size_row.SizeRow.{SizeRow}
use Rattle.pictures.specs.declared.sizes.frame.Frame.{Frame}
use Rattle.pictures.specs.Sizes.Places.{mark_y, x_of}
use Rattle.pictures.specs.Sizes.Titles.{title_words}

-- where there was no run
abbrev pub cross : (x y : ℕ) → Shape
cross x y = Over (line (x - 4) (y - 4) (x + 4) (y + 4) Black) (line (x + 4) (y - 4) (x - 4) (y + 4) Black)

-- a circle, full where a run ended, hollow where it goes on; a square where it faulted
abbrev pub shape : Frame → (x y : ℕ) → Ending → Shape
shape f x y (Ended c) = Drawn (Circle x y) (outlined Black)
shape f x y (GoesOn c) = Drawn (Circle x y) (outlined White)
shape f x y (Faulted c fault) = Drawn (Rectangle (x - 4) (y - 4) 8 8) (outlined White)
shape f x y (Refused refusal) = cross x f.base

abbrev pub row_shape : Frame → SizeRow → Shape
row_shape f row = shape f (x_of f row.size) (mark_y f row.ending) row.ending

-- the mark of a row, and what it says where it is pointed at
abbrev pub mark : List ℕ → Frame → SizeRow → Shape
mark name f row = Titled (title_words name f.measure row) (row_shape f row)

abbrev pub marks : List ℕ → Frame → List SizeRow → Shape
marks name f [] = Empty
marks name f (row ∷ rows) = Over (mark name f row) (marks name f rows)

-- ---- the line through the circles, in the order of the rows

abbrev pub ending_point : (x y : ℕ) → Ending → Points
ending_point x y (Ended c) = At x y
ending_point x y (GoesOn c) = At x y
ending_point x y (Faulted c fault) = NoPoint
ending_point x y (Refused refusal) = NoPoint

abbrev pub row_point : Frame → SizeRow → Points
row_point f row = ending_point (x_of f row.size) (mark_y f row.ending) row.ending

abbrev pub points : Frame → List SizeRow → Points
points f [] = NoPoint
points f (row ∷ rows) = Both (row_point f row) (points f rows)

abbrev pub curve : Frame → List SizeRow → Shape
curve f rows = Through (points f rows)
