use Rattle.std.proofs.Common.{◌++◌, sym}
use Rattle.std.proofs.Common.{◌+◌}
use Rattle.svg_texts.specs.Shapes.{shape_text}
use Rattle.pictures.specs.Steps.ProgramLines.{code_row, first_row, more_code, next_row}
use Rattle.text_out.proofs.Progress.{breaks_off, closes, goes_on, starts}
use Rattle.pictures.proofs.steps.program_lines.write_code.Goals as goal

pub returns-in_err-write_code_row : goal.returns-in_err-write_code_row
returns-in_err-write_code_row g c =
    let part1 = shape_text (code_row (c.args.x + 24) c.args.y (first_row c.args.bytes.now)) in
    let part2 = shape_text (more_code (c.args.x + 38) c.args.y (next_row c.args.bytes.now)) in
    record {
      written = breaks_off _ _ _ _ _ (_) part2 c.from_residual.result _ c.from_residual.ensures.1 (starts _ _) (λ i. shape_text (code_row
          (c.args.x + 24) c.args.y (sym c.first_row.ensures i)) ++ part2) c.in_err-write_code_row.ensures.written;
    }

pub returns : goal.returns
returns g c =
    let part1 = shape_text (code_row (c.args.x + 24) c.args.y (first_row c.args.bytes.now)) in
    let part2 = shape_text (more_code (c.args.x + 38) c.args.y (next_row c.args.bytes.now)) in
    let after1 = goes_on _ _ _ _ _ (_) (_) (starts _ _) (λ i. shape_text (code_row (c.args.x + 24) c.args.y (sym c.first_row.ensures i))
    ++ shape_text (more_code (c.args.x + 38) c.args.y (sym c.next_row.ensures i))) c.in_ok-write_code_row.ensures.written in
    record {
      written = closes _ _ _ _ _ c.write_more.result after1 c.write_more.ensures.written;
    }
