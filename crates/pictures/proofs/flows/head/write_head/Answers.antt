use Rattle.std.proofs.Common.{refl, ◌++◌}
use Rattle.svg_texts.specs.Shapes.{shape_text}
use Rattle.pictures.specs.Flows.Picture.{cell_line, key, statement_line}
use Rattle.text_out.proofs.Progress.{breaks_off, closes, goes_on, starts}
use Rattle.pictures.proofs.flows.head.write_head.Goals as goal

pub returns-in_err-write_statement_line : goal.returns-in_err-write_statement_line
returns-in_err-write_statement_line g c =
    let part1 = shape_text (statement_line c.args.from c.args.to c.args.statements c.args.columns c.args.touching) in
    let part2 = shape_text (cell_line c.args.layout.now c.args.only.now c.args.rows c.args.found) in
    let part3 = shape_text key in
    record {
      written = breaks_off _ _ _ _ _ part1 (part2 ++ part3) c.from_residual.result _ c.from_residual.ensures.1 (starts _ _) refl
          c.in_err-write_statement_line.ensures.written;
    }

pub returns-in_err-write_cell_line : goal.returns-in_err-write_cell_line
returns-in_err-write_cell_line g c =
    let part1 = shape_text (statement_line c.args.from c.args.to c.args.statements c.args.columns c.args.touching) in
    let part2 = shape_text (cell_line c.args.layout.now c.args.only.now c.args.rows c.args.found) in
    let part3 = shape_text key in
    let after1 = goes_on _ _ _ _ _ part1 (part2 ++ part3) (starts _ _) refl c.in_ok-write_statement_line.ensures.written in
    record {
      written = breaks_off _ _ _ _ _ part2 part3 c.from_residual-in_err-write_cell_line.result _
          c.from_residual-in_err-write_cell_line.ensures.1 after1 refl c.in_err-write_cell_line.ensures.written;
    }

pub returns : goal.returns
returns g c =
    let part1 = shape_text (statement_line c.args.from c.args.to c.args.statements c.args.columns c.args.touching) in
    let part2 = shape_text (cell_line c.args.layout.now c.args.only.now c.args.rows c.args.found) in
    let part3 = shape_text key in
    let after1 = goes_on _ _ _ _ _ part1 (part2 ++ part3) (starts _ _) refl c.in_ok-write_statement_line.ensures.written in
    let after2 = goes_on _ _ _ _ _ part2 part3 after1 refl c.in_ok-write_cell_line.ensures.written in
    record {
      written = closes _ _ _ _ _ c.write_key.result after2 c.write_key.ensures.written;
    }
