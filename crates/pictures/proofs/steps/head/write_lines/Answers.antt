use Rattle.std.proofs.Common.{refl}
use Rattle.svg_texts.specs.Shapes.{shape_text}
use Rattle.pictures.specs.Steps.Picture.{rows_line, statements_line}
use Rattle.text_out.proofs.Progress.{breaks_off, closes, goes_on, starts}
use Rattle.pictures.proofs.steps.head.write_lines.Goals as goal

pub returns-in_err-write_statements_line : goal.returns-in_err-write_statements_line
returns-in_err-write_statements_line g c =
    let part1 = shape_text (statements_line c.args.part c.args.statements) in
    let part2 = shape_text (rows_line c.args.rows) in
    record {
      written = breaks_off _ _ _ _ _ part1 part2 c.from_residual.result _ c.from_residual.ensures.1 (starts _ _) refl
          c.in_err-write_statements_line.ensures.written;
    }

pub returns : goal.returns
returns g c =
    let part1 = shape_text (statements_line c.args.part c.args.statements) in
    let part2 = shape_text (rows_line c.args.rows) in
    let after1 = goes_on _ _ _ _ _ part1 part2 (starts _ _) refl c.in_ok-write_statements_line.ensures.written in
    record {
      written = closes _ _ _ _ _ c.write_rows_line.result after1 c.write_rows_line.ensures.written;
    }
