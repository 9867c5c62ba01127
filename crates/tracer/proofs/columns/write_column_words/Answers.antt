use Rattle.std.proofs.Common.{refl, ◌++◌, sym}
use Rattle.std.specs.Prelude.{codes}
use Rattle.std.proofs.Common.{◌+◌}
use Rattle.superstep_machine.specs.Purposes.{purpose_is}
use Rattle.svg_texts.specs.declared.lettering.Anchor.TheVariants.{Start}
use Rattle.svg_texts.specs.declared.lettering.Face.TheVariants as face
use Rattle.svg_texts.specs.Plain.{label, number}
use Rattle.svg_texts.specs.Shapes.{shape_text}
use Rattle.tracer.specs.Traced.{kind_text}
use Rattle.tracer.specs.Picture.{named_number}
use Rattle.text_out.proofs.Progress.{breaks_off, closes, goes_on, starts}
use Rattle.tracer.proofs.columns.write_column_words.Goals as goal

pub returns-in_err-write_number : goal.returns-in_err-write_number
returns-in_err-write_number g c =
    let part1 = shape_text (number (c.args.x + 4) 64 Start face.Plain c.args.k) in
    let part2 = shape_text (label (c.args.x + 4) 78 Start face.Plain (kind_text (purpose_is c.args.purpose))) in
    let part3 = shape_text (named_number (c.args.x + 4) 344 (codes "h ") c.args.h) in
    record {
      written = breaks_off _ _ _ _ _ part1 (part2 ++ part3) c.from_residual.result _ c.from_residual.ensures.1 (starts _ _) refl
          c.in_err-write_number.ensures.written;
    }

pub returns-in_err-write_label : goal.returns-in_err-write_label
returns-in_err-write_label g c =
    let part1 = shape_text (number (c.args.x + 4) 64 Start face.Plain c.args.k) in
    let part2 = shape_text (label (c.args.x + 4) 78 Start face.Plain (kind_text (purpose_is c.args.purpose))) in
    let part3 = shape_text (named_number (c.args.x + 4) 344 (codes "h ") c.args.h) in
    let after1 = goes_on _ _ _ _ _ part1 (part2 ++ part3) (starts _ _) refl c.in_ok-write_number.ensures.written in
    record {
      written = breaks_off _ _ _ _ _ (shape_text (label (c.args.x + 4) 78 Start face.Plain c.kind_word.result.now)) part3
          c.from_residual-in_err-write_label.result _ c.from_residual-in_err-write_label.ensures.1 after1 (λ i. shape_text (label
          (c.args.x + 4) 78 Start face.Plain (sym c.kind_word.ensures i)) ++ part3) c.in_err-write_label.ensures.written;
    }

pub returns : goal.returns
returns g c =
    let part1 = shape_text (number (c.args.x + 4) 64 Start face.Plain c.args.k) in
    let part2 = shape_text (label (c.args.x + 4) 78 Start face.Plain (kind_text (purpose_is c.args.purpose))) in
    let part3 = shape_text (named_number (c.args.x + 4) 344 (codes "h ") c.args.h) in
    let after1 = goes_on _ _ _ _ _ part1 (part2 ++ part3) (starts _ _) refl c.in_ok-write_number.ensures.written in
    let after2 = goes_on _ _ _ _ _ (shape_text (label (c.args.x + 4) 78 Start face.Plain c.kind_word.result.now)) part3 after1 (λ i.
    shape_text (label (c.args.x + 4) 78 Start face.Plain (sym c.kind_word.ensures i)) ++ part3) c.in_ok-write_label.ensures.written in
    record {
      written = closes _ _ _ _ _ c.write_named_number.result after2 c.write_named_number.ensures.written;
    }
