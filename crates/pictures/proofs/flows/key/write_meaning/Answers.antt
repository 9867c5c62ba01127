use Rattle.std.proofs.Common.{refl}
use Rattle.svg_texts.specs.Shapes.{shape_text, Drawn, Text, Letters}
use Rattle.pictures.specs.Looks.{plain}
use Rattle.text_out.proofs.Progress.{breaks_off, closes, goes_on, starts}
use Rattle.pictures.proofs.flows.key.write_meaning.Goals as goal

pub returns-in_err-write_form : goal.returns-in_err-write_form
returns-in_err-write_form g c =
    let part1 = shape_text (Drawn c.args.form.now c.args.paint.now) in
    let part2 = shape_text (Text c.args.x c.args.y plain (Letters c.args.words.now)) in
    record {
      written = breaks_off _ _ _ _ _ part1 part2 c.from_residual.result _ c.from_residual.ensures.1 (starts _ _) refl
          c.in_err-write_form.ensures.written;
    }

pub returns : goal.returns
returns g c =
    let part1 = shape_text (Drawn c.args.form.now c.args.paint.now) in
    let part2 = shape_text (Text c.args.x c.args.y plain (Letters c.args.words.now)) in
    let after1 = goes_on _ _ _ _ _ part1 part2 (starts _ _) refl c.in_ok-write_form.ensures.written in
    record {
      written = closes _ _ _ _ _ c.write_label.result after1 c.write_label.ensures.written;
    }
