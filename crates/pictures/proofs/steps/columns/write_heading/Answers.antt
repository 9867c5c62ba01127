use Rattle.std.proofs.Common.{◌++◌, sym}
use Rattle.std.proofs.Common.{◌-◌}
use Rattle.svg_texts.specs.Shapes.{shape_text}
use Rattle.pictures.specs.Steps.Columns.{numbers}
use Rattle.pictures.specs.Steps.Measures.{column_is}
use Rattle.pictures.specs.Steps.ProgramLines.{code_of, code_rows}
use Rattle.text_out.proofs.Progress.{breaks_off, closes, goes_on, starts}
use Rattle.pictures.proofs.steps.columns.write_heading.Goals as goal

pub returns-in_err-write_code : goal.returns-in_err-write_code
returns-in_err-write_code g c =
    let part1 = shape_text (code_rows c.args.at.x (c.args.at.y - 42) (code_of c.args.text.now c.args.line)) in
    let part2 = shape_text (numbers (column_is c.args.at) c.args.line) in
    record {
      written = breaks_off _ _ _ _ _ (_) part2 c.from_residual.result _ c.from_residual.ensures.1 (starts _ _) (λ i. shape_text (code_rows
          c.args.at.x (c.args.at.y - 42) (sym c.code_of.ensures i)) ++ part2) c.in_err-write_code.ensures.written;
    }

pub returns : goal.returns
returns g c =
    let part1 = shape_text (code_rows c.args.at.x (c.args.at.y - 42) (code_of c.args.text.now c.args.line)) in
    let part2 = shape_text (numbers (column_is c.args.at) c.args.line) in
    let after1 = goes_on _ _ _ _ _ (_) part2 (starts _ _) (λ i. shape_text (code_rows c.args.at.x (c.args.at.y - 42) (sym
    c.code_of.ensures i)) ++ part2) c.in_ok-write_code.ensures.written in
    record {
      written = closes _ _ _ _ _ c.write_numbers.result after1 c.write_numbers.ensures.written;
    }
