use Rattle.std.proofs.Common.{refl}
use Rattle.std.specs.Prelude.{◌+◌}
use Rattle.svg_texts.specs.Shapes.{shape_text}
use Rattle.pictures.specs.Flows.Rows.{row_words, wire}
use Rattle.text_out.proofs.Progress.{breaks_off, closes, goes_on, starts}
use Rattle.pictures.proofs.flows.row_heads.write_row_head.Goals as goal

pub returns-in_err-write_wire : goal.returns-in_err-write_wire
returns-in_err-write_wire g c =
    let part1 = shape_text (wire c.args.y c.args.wide) in
    let part2 = shape_text (row_words c.args.layout.now (c.args.y + 4) c.args.cell c.args.value.now) in
    record {
      written = breaks_off _ _ _ _ _ part1 part2 c.from_residual.result _ c.from_residual.ensures.1 (starts _ _) refl
          c.in_err-write_wire.ensures.written;
    }

pub returns : goal.returns
returns g c =
    let part1 = shape_text (wire c.args.y c.args.wide) in
    let part2 = shape_text (row_words c.args.layout.now (c.args.y + 4) c.args.cell c.args.value.now) in
    let after1 = goes_on _ _ _ _ _ part1 part2 (starts _ _) refl c.in_ok-write_wire.ensures.written in
    record {
      written = closes _ _ _ _ _ c.write_row_words.result after1 c.write_row_words.ensures.written;
    }
