use Rattle.std.proofs.Common.{◌++◌, sym}
use Rattle.superstep_machine.specs.Purposes.{purpose_is}
use Rattle.svg_texts.specs.declared.form.Form.TheVariants.{Rectangle}
use Rattle.svg_texts.specs.Plain.{filled}
use Rattle.svg_texts.specs.Shapes.{Drawn, shape_text}
use Rattle.tracer.specs.Picture.{column_words, ground}
use Rattle.text_out.proofs.Progress.{breaks_off, closes, goes_on, starts}
use Rattle.tracer.proofs.columns.write_front.Goals as goal

pub returns-in_err-write_filled : goal.returns-in_err-write_filled
returns-in_err-write_filled g c =
    let part1 = shape_text (Drawn (Rectangle c.args.x 50 c.args.width 300) (filled (ground (purpose_is c.args.purpose)))) in
    let part2 = shape_text (column_words c.args.x c.args.k (purpose_is c.args.purpose) c.args.h) in
    record {
      written = breaks_off _ _ _ _ _ (shape_text (Drawn (Rectangle c.args.x 50 c.args.width 300) (filled c.ground.result))) part2
          c.from_residual.result _ c.from_residual.ensures.1 (starts _ _) (λ i. shape_text (Drawn (Rectangle c.args.x 50 c.args.width 300)
          (filled (sym c.ground.ensures i))) ++ part2) c.in_err-write_filled.ensures.written;
    }

pub returns : goal.returns
returns g c =
    let part1 = shape_text (Drawn (Rectangle c.args.x 50 c.args.width 300) (filled (ground (purpose_is c.args.purpose)))) in
    let part2 = shape_text (column_words c.args.x c.args.k (purpose_is c.args.purpose) c.args.h) in
    let after1 = goes_on _ _ _ _ _ (shape_text (Drawn (Rectangle c.args.x 50 c.args.width 300) (filled c.ground.result))) part2 (starts _
    _) (λ i. shape_text (Drawn (Rectangle c.args.x 50 c.args.width 300) (filled (sym c.ground.ensures i))) ++ part2)
    c.in_ok-write_filled.ensures.written in
    record {
      written = closes _ _ _ _ _ c.write_column_words.result after1 c.write_column_words.ensures.written;
    }
