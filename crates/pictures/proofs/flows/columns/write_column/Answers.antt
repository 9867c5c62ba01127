use Rattle.std.proofs.Common.{refl, ◌++◌}
use Rattle.journal.specs.Entries.{entry_is}
use Rattle.svg_texts.specs.Shapes.{shape_text}
use Rattle.pictures.specs.Flows.Columns.{column_fault, heading}
use Rattle.pictures.specs.Flows.Drawing.{column_is}
use Rattle.pictures.specs.Flows.MarkShapes.{marks_shape}
use Rattle.text_out.proofs.Progress.{breaks_off, closes, goes_on, starts}
use Rattle.pictures.proofs.flows.columns.write_column.Goals as goal

pub returns-in_err-write_heading : goal.returns-in_err-write_heading
returns-in_err-write_heading g c =
    let part1 = shape_text (heading c.args.text.now c.args.column c.args.drawn.now.number (entry_is c.args.drawn.now.entry)) in
    let part2 = shape_text (marks_shape c.args.rows.now c.args.column (column_is c.args.drawn.now)) in
    let part3 = shape_text (column_fault c.args.layout.now c.args.rows.now c.args.column (entry_is c.args.drawn.now.entry)) in
    record {
      written = breaks_off _ _ _ _ _ part1 (part2 ++ part3) c.from_residual.result _ c.from_residual.ensures.1 (starts _ _) refl
          c.in_err-write_heading.ensures.written;
    }

pub returns-in_err-write_marks : goal.returns-in_err-write_marks
returns-in_err-write_marks g c =
    let part1 = shape_text (heading c.args.text.now c.args.column c.args.drawn.now.number (entry_is c.args.drawn.now.entry)) in
    let part2 = shape_text (marks_shape c.args.rows.now c.args.column (column_is c.args.drawn.now)) in
    let part3 = shape_text (column_fault c.args.layout.now c.args.rows.now c.args.column (entry_is c.args.drawn.now.entry)) in
    let after1 = goes_on _ _ _ _ _ part1 (part2 ++ part3) (starts _ _) refl c.in_ok-write_heading.ensures.written in
    record {
      written = breaks_off _ _ _ _ _ part2 part3 c.from_residual-in_err-write_marks.result _ c.from_residual-in_err-write_marks.ensures.1
          after1 refl c.in_err-write_marks.ensures.written;
    }

pub returns : goal.returns
returns g c =
    let part1 = shape_text (heading c.args.text.now c.args.column c.args.drawn.now.number (entry_is c.args.drawn.now.entry)) in
    let part2 = shape_text (marks_shape c.args.rows.now c.args.column (column_is c.args.drawn.now)) in
    let part3 = shape_text (column_fault c.args.layout.now c.args.rows.now c.args.column (entry_is c.args.drawn.now.entry)) in
    let after1 = goes_on _ _ _ _ _ part1 (part2 ++ part3) (starts _ _) refl c.in_ok-write_heading.ensures.written in
    let after2 = goes_on _ _ _ _ _ part2 part3 after1 refl c.in_ok-write_marks.ensures.written in
    record {
      written = closes _ _ _ _ _ c.write_column_fault.result after2 c.write_column_fault.ensures.written;
    }
