use Rattle.std.proofs.Common.{refl}
use Rattle.svg_texts.specs.Shapes.{shape_text}
use Rattle.pictures.specs.Steps.Picture.{key, lines}
use Rattle.text_out.proofs.Progress.{breaks_off, closes, goes_on, starts}
use Rattle.pictures.proofs.steps.head.write_head.Goals as goal

pub returns-in_err-write_lines : goal.returns-in_err-write_lines
returns-in_err-write_lines g c =
    let part1 = shape_text (lines c.args.part c.args.statements c.args.rows) in
    let part2 = shape_text key in
    record {
      written = breaks_off _ _ _ _ _ part1 part2 c.from_residual.result _ c.from_residual.ensures.1 (starts _ _) refl
          c.in_err-write_lines.ensures.written;
    }

pub returns : goal.returns
returns g c =
    let part1 = shape_text (lines c.args.part c.args.statements c.args.rows) in
    let part2 = shape_text key in
    let after1 = goes_on _ _ _ _ _ part1 part2 (starts _ _) refl c.in_ok-write_lines.ensures.written in
    record {
      written = closes _ _ _ _ _ c.write_key.result after1 c.write_key.ensures.written;
    }
