-- Labels from one on.
use Rattle.std.proofs.Common.{◌≡◌, ◌∙◌, ℕ, ◌+◌, ◌<◌, List, Option, ap, drop, get_or, length, sym}
use Rattle.text_out.proofs.Items.{at_item}
use Rattle.sweeps.specs.declared.size_row.SizeRow.{SizeRow}
use Rattle.svg_texts.specs.Shapes.{Over}
use Rattle.pictures.specs.declared.sizes.frame.Frame.{Frame}
use Rattle.pictures.specs.declared.sizes.labels.Kind.{Kind}
use Rattle.pictures.specs.declared.sizes.labels.Label.{Label}
use Rattle.pictures.specs.Sizes.Labels.{label_of, label_shape, labels, last_of}

pub labels_at : (k : Kind) (f : Frame) (last next : ℕ) (rows : List SizeRow) (i : ℕ) (row : SizeRow) (l : Option Label) → i < length rows
    →
    row ≡ get_or rows i row → l ≡ label_of k f row → next ≡ last_of last l →
    labels k f last (drop i rows) ≡ Over (label_shape last l) (labels k f next (drop (i + 1) rows))
labels_at k f last next rows i row l within is label behind =
    at_item (labels k f last) rows i row within is
    ∙ ap (λ o. Over (label_shape last o) (labels k f (last_of last o) (drop (i + 1) rows))) (sym label)
    ∙ ap (λ n. Over (label_shape last l) (labels k f n (drop (i + 1) rows))) (sym behind)
