use Rattle.std.proofs.Common.{refl, ◌++◌, sym}
use Rattle.journal.specs.Entries.{entry_is}
use Rattle.svg_texts.specs.Shapes.{shape_text}
use Rattle.pictures.specs.Steps.Bands.{front_of}
use Rattle.pictures.specs.Steps.Columns.{column}
use Rattle.pictures.specs.Steps.Measures.{column_at, column_is, frame_is}
use Rattle.text_out.proofs.Progress.{breaks_off, closes, goes_on, starts}
use Rattle.pictures.proofs.steps.bands.write_with_front.Goals as goal

pub returns-in_err-write_front : goal.returns-in_err-write_front
returns-in_err-write_front g c =
    let part1 = shape_text (front_of (frame_is c.args.frame.now) c.args.before) in
    let part2 = shape_text (column (frame_is c.args.frame.now) (column_at (frame_is c.args.frame.now) c.args.before c.args.number)
    (entry_is c.args.entry.now)) in
    record {
      written = breaks_off _ _ _ _ _ part1 part2 c.from_residual.result _ c.from_residual.ensures.1 (starts _ _) refl
          c.in_err-write_front.ensures.written;
    }

pub returns : goal.returns
returns g c =
    let part1 = shape_text (front_of (frame_is c.args.frame.now) c.args.before) in
    let part2 = shape_text (column (frame_is c.args.frame.now) (column_at (frame_is c.args.frame.now) c.args.before c.args.number)
    (entry_is c.args.entry.now)) in
    let after1 = goes_on _ _ _ _ _ part1 (shape_text (column (frame_is c.args.frame.now) (column_is c.column_of.result) (entry_is
    c.args.entry.now))) (starts _ _) (λ i. part1 ++ shape_text (column (frame_is c.args.frame.now) (sym c.column_of.ensures i)
    (entry_is c.args.entry.now))) c.in_ok-write_front.ensures.written in
    record {
      written = closes _ _ _ _ _ c.write_column.result after1 c.write_column.ensures.written;
    }
