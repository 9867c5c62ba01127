use Rattle.std.proofs.Common.{refl}
use Rattle.journal.specs.Entries.{entry_is}
use Rattle.svg_texts.specs.Shapes.{shape_text}
use Rattle.pictures.specs.Flows.Columns.{entry_line, number_shape}
use Rattle.text_out.proofs.Progress.{breaks_off, closes, goes_on, starts}
use Rattle.pictures.proofs.flows.columns.write_place.Goals as goal

pub returns-in_err-write_place_number : goal.returns-in_err-write_place_number
returns-in_err-write_place_number g c =
    let part1 = shape_text (number_shape c.args.x c.args.number) in
    let part2 = shape_text (entry_line c.args.x (entry_is c.args.entry.now)) in
    record {
      written = breaks_off _ _ _ _ _ part1 part2 c.from_residual.result _ c.from_residual.ensures.1 (starts _ _) refl
          c.in_err-write_place_number.ensures.written;
    }

pub returns : goal.returns
returns g c =
    let part1 = shape_text (number_shape c.args.x c.args.number) in
    let part2 = shape_text (entry_line c.args.x (entry_is c.args.entry.now)) in
    let after1 = goes_on _ _ _ _ _ part1 part2 (starts _ _) refl c.in_ok-write_place_number.ensures.written in
    record {
      written = closes _ _ _ _ _ c.write_entry_line.result after1 c.write_entry_line.ensures.written;
    }
