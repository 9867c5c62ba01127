use Rattle.std.proofs.Common.{◌++◌, sym}
use Rattle.std.specs.Prelude.{codes}
use Rattle.svg_texts.specs.declared.form.Form.TheVariants.{Rectangle}
use Rattle.svg_texts.specs.declared.lettering.Anchor.TheVariants.{Start}
use Rattle.svg_texts.specs.declared.lettering.Face.TheVariants as face
use Rattle.svg_texts.specs.Plain.{label}
use Rattle.svg_texts.specs.Shapes.{Drawn, shape_text}
use Rattle.tracer.specs.Picture.{sent_paint}
use Rattle.text_out.proofs.Progress.{breaks_off, closes, goes_on, starts}
use Rattle.tracer.proofs.picture.write_key_sent.Goals as goal

pub returns-in_err-write_as_sent : goal.returns-in_err-write_as_sent
returns-in_err-write_as_sent g c =
    let part1 = shape_text (Drawn (Rectangle 12 28 12 12) sent_paint) in
    let part2 = shape_text (label 28 38 Start face.Plain (codes "words sent")) in
    record {
      written = breaks_off _ _ _ _ _ (shape_text (Drawn c.key_at.result sent_paint)) part2 c.from_residual.result _
          c.from_residual.ensures.1 (starts _ _) (λ i. shape_text (Drawn (sym c.key_at.ensures i) sent_paint) ++ part2)
          c.in_err-write_as_sent.ensures.written;
    }

pub returns : goal.returns
returns g c =
    let part1 = shape_text (Drawn (Rectangle 12 28 12 12) sent_paint) in
    let part2 = shape_text (label 28 38 Start face.Plain (codes "words sent")) in
    let after1 = goes_on _ _ _ _ _ (shape_text (Drawn c.key_at.result sent_paint)) part2 (starts _ _) (λ i. shape_text (Drawn (sym
    c.key_at.ensures i) sent_paint) ++ part2) c.in_ok-write_as_sent.ensures.written in
    record {
      written = closes _ _ _ _ _ c.write_label.result after1 c.write_label.ensures.written;
    }
