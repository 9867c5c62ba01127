use Rattle.std.proofs.Common.{refl}
use Rattle.journal.specs.Entries.{entry_is}
use Rattle.svg_texts.specs.Shapes.{shape_text}
use Rattle.pictures.specs.Flows.Columns.{line_source, place_shape}
use Rattle.text_out.proofs.Progress.{breaks_off, closes, goes_on, starts}
use Rattle.pictures.proofs.flows.columns.write_heading_at.Goals as goal

pub returns-in_err-write_place : goal.returns-in_err-write_place
returns-in_err-write_place g c =
    let part1 = shape_text (place_shape c.args.x c.args.number (entry_is c.args.entry.now)) in
    let part2 = shape_text (line_source c.args.text.now c.args.x (entry_is c.args.entry.now)) in
    record {
      written = breaks_off _ _ _ _ _ part1 part2 c.from_residual.result _ c.from_residual.ensures.1 (starts _ _) refl
          c.in_err-write_place.ensures.written;
    }

pub returns : goal.returns
returns g c =
    let part1 = shape_text (place_shape c.args.x c.args.number (entry_is c.args.entry.now)) in
    let part2 = shape_text (line_source c.args.text.now c.args.x (entry_is c.args.entry.now)) in
    let after1 = goes_on _ _ _ _ _ part1 part2 (starts _ _) refl c.in_ok-write_place.ensures.written in
    record {
      written = closes _ _ _ _ _ c.write_line_source.result after1 c.write_line_source.ensures.written;
    }
