-- The mark of each row is in a picture.
use Rattle.std.proofs.Common.{◌≡◌, ℕ, zero, suc, ◌<◌, List, [], ◌∷◌, arith, get_or, length, subst, sym}
use Rattle.std.specs.List.{Contains}
use Rattle.sweeps.specs.declared.measure.Measure.TheVariants.{Time, Work}
use Rattle.sweeps.specs.declared.size_row.SizeRow.{SizeRow}
use Rattle.svg_texts.specs.Shapes.{Over, IsIn}
use Rattle.svg_texts.proofs.Inside.{in_first, in_second, itself}
use Rattle.pictures.specs.declared.sizes.frame.Frame.{Frame}
use Rattle.pictures.specs.Sizes.Marks.{curve, mark, marks}
use Rattle.pictures.specs.Sizes.Picture.{all_labels, cut, figure, frame_of, ground, panel, panels, picture}
use Rattle.pictures.specs.Sizes.Places.{drawn}

mark_stands : (name : List ℕ) (f : Frame) (rows : List SizeRow) (k : ℕ) (row : SizeRow) → k < length rows → get_or rows k row ≡ row →
    IsIn (mark name f row) (marks name f rows)
mark_stands name f [] k row within is = absurd (omega (arith, within))
mark_stands name f (r ∷ rows) zero row within is =
    subst (λ (s : SizeRow). IsIn (mark name f row) (Over (mark name f s) (marks name f rows))) (sym is)
    (in_first (mark name f row) (mark name f row) (marks name f rows) (itself (mark name f row)))
mark_stands name f (r ∷ rows) (suc k) row within is =
    in_second (mark name f row) (mark name f r) (marks name f rows) (mark_stands name f rows k row (omega (arith, within)) is)

panel_stands : (name : List ℕ) (f : Frame) (rows : List SizeRow) (row : SizeRow) → Contains rows row →
    IsIn (mark name f row) (panel name f rows)
panel_stands name f rows row one =
    let m = mark name f row in
    in_second m (ground name f) (figure name f rows)
    (in_second m (curve f rows) (Over (marks name f rows) (all_labels f rows))
    (in_first m (marks name f rows) (all_labels f rows) (mark_stands name f rows one.0 row one.1 one.2)))

pub time_stands : (name : List ℕ) (rows : List SizeRow) (row : SizeRow) → Contains (drawn rows) row →
    IsIn (mark name (frame_of Time 220 (drawn rows)) row) (picture name rows).shape
time_stands name rows row one =
    let f = frame_of Time 220 (drawn rows) in
    let m = mark name f row in
    in_second m (cut (length rows)) (panels name (drawn rows))
    (in_first m (panel name f (drawn rows)) (panel name (frame_of Work 450 (drawn rows)) (drawn rows))
    (panel_stands name f (drawn rows) row one))

pub work_stands : (name : List ℕ) (rows : List SizeRow) (row : SizeRow) → Contains (drawn rows) row →
    IsIn (mark name (frame_of Work 450 (drawn rows)) row) (picture name rows).shape
work_stands name rows row one =
    let f = frame_of Work 450 (drawn rows) in
    let m = mark name f row in
    in_second m (cut (length rows)) (panels name (drawn rows))
    (in_second m (panel name (frame_of Time 220 (drawn rows)) (drawn rows)) (panel name f (drawn rows))
    (panel_stands name f (drawn rows) row one))
