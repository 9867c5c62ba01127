-- The labels of a panel: its sizes below the axis, and its numbers above their marks. One that would touch the last one is left out.
use Rattle.std.specs.Prelude.{ℕ, ◌+◌, ◌-◌, ◌*◌, max, nat_le, if◌then◌else◌, Bool, List}
use Rattle.std.specs.Prelude.{[], ◌∷◌, Option, Some, None, length, decimal}
use Rattle.svg_texts.specs.declared.lettering.Anchor.TheVariants.{Middle}
use Rattle.svg_texts.specs.declared.lettering.Face.TheVariants as face
use Rattle.svg_texts.specs.Plain.{number}
use Rattle.svg_texts.specs.Shapes.{Shape, Empty, Over}
use Rattle.sweeps.specs.declared.size_row.Ending.{Ending}
use Rattle.sweeps.specs.declared.size_row.Ending.TheVariants.{Ended, GoesOn, Faulted, Refused}
use Rattle.sweeps.specs.declared.size_row.SizeRow.{SizeRow}
use Rattle.pictures.specs.declared.sizes.frame.Frame.{Frame}
use Rattle.pictures.specs.declared.sizes.labels.Kind.{Kind}
use Rattle.pictures.specs.declared.sizes.labels.Kind.TheVariants.{Sizes, Numbers}
use Rattle.pictures.specs.declared.sizes.labels.Label.{Label}
use Rattle.pictures.specs.Sizes.Places.{number_of, x_of, y_of}

abbrev pub size_label : Frame → ℕ → Label
size_label f size = record { x = x_of f size; y = f.base + 18; number = size }

-- above its mark
abbrev pub number_label : Frame → (size number : ℕ) → Label
number_label f size number = record { x = x_of f size; y = y_of f number - 8; number = number }

-- a size with no run has no number
abbrev pub ending_label : Frame → ℕ → Ending → Option Label
ending_label f size (Ended c) = Some (number_label f size (number_of f.measure (Ended c)))
ending_label f size (GoesOn c) = Some (number_label f size (number_of f.measure (GoesOn c)))
ending_label f size (Faulted c fault) = Some (number_label f size (number_of f.measure (Faulted c fault)))
ending_label f size (Refused refusal) = None

abbrev pub label_of : Kind → Frame → SizeRow → Option Label
label_of Sizes f row = Some (size_label f row.size)
label_of Numbers f row = ending_label f row.size row.ending

-- whether it stands so far from the last one that they don't touch: 7 pixels a digit, and 6 between
abbrev pub is_far : (last : ℕ) → Label → Bool
is_far last l = nat_le (7 * length (decimal l.number) + 6) (max (l.x - last) (last - l.x))

abbrev pub written : Label → Shape
written l = number l.x l.y Middle face.Plain l.number

abbrev pub label_shape : (last : ℕ) → Option Label → Shape
label_shape last None = Empty
label_shape last (Some l) = if is_far last l then written l else Empty

-- where the last one stands behind it
abbrev pub last_of : (last : ℕ) → Option Label → ℕ
last_of last None = last
last_of last (Some l) = if is_far last l then l.x else last

abbrev pub labels : Kind → Frame → (last : ℕ) → List SizeRow → Shape
labels k f last [] = Empty
labels k f last (row ∷ rows) = Over (label_shape last (label_of k f row)) (labels k f (last_of last (label_of k f row)) rows)
