use Rattle.std.proofs.Common.{refl}
use Rattle.svg_texts.specs.Shapes.{shape_text}
use Rattle.pictures.specs.Steps.Columns.{line_number, number}
use Rattle.pictures.specs.Steps.Measures.{column_is}
use Rattle.text_out.proofs.Progress.{breaks_off, closes, goes_on, starts}
use Rattle.pictures.proofs.steps.columns.write_numbers.Goals as goal

pub returns-in_err-write_statement_number : goal.returns-in_err-write_statement_number
returns-in_err-write_statement_number g c =
    let part1 = shape_text (number (column_is c.args.at)) in
    let part2 = shape_text (line_number (column_is c.args.at) c.args.line) in
    record {
      written = breaks_off _ _ _ _ _ part1 part2 c.from_residual.result _ c.from_residual.ensures.1 (starts _ _) refl
          c.in_err-write_statement_number.ensures.written;
    }

pub returns : goal.returns
returns g c =
    let part1 = shape_text (number (column_is c.args.at)) in
    let part2 = shape_text (line_number (column_is c.args.at) c.args.line) in
    let after1 = goes_on _ _ _ _ _ part1 part2 (starts _ _) refl c.in_ok-write_statement_number.ensures.written in
    record {
      written = closes _ _ _ _ _ c.write_line_number.result after1 c.write_line_number.ensures.written;
    }
