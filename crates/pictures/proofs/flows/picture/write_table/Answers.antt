use Rattle.std.proofs.Common.{refl}
use Rattle.std.specs.Prelude.{map}
use Rattle.svg_texts.specs.Shapes.{shape_text}
use Rattle.pictures.specs.Flows.Drawing.{column_is}
use Rattle.pictures.specs.Flows.Table.{columns, row_heads}
use Rattle.pictures.specs.Flows.Values.{value_at}
use Rattle.text_out.proofs.Progress.{breaks_off, closes, goes_on, starts}
use Rattle.pictures.proofs.flows.picture.write_table.Goals as goal

pub returns-in_err-write_row_heads : goal.returns-in_err-write_row_heads
returns-in_err-write_row_heads g c =
    let part1 = shape_text (row_heads c.args.layout.now c.args.wide (value_at c.args.before.now) 0 c.args.rows.now) in
    let part2 = shape_text (columns c.args.layout.now c.args.text.now c.args.rows.now 1 (map column_is c.args.columns.now)) in
    record {
      written = breaks_off _ _ _ _ _ part1 part2 c.from_residual.result _ c.from_residual.ensures.1 (starts _ _) refl
          c.in_err-write_row_heads.ensures.written;
    }

pub returns : goal.returns
returns g c =
    let part1 = shape_text (row_heads c.args.layout.now c.args.wide (value_at c.args.before.now) 0 c.args.rows.now) in
    let part2 = shape_text (columns c.args.layout.now c.args.text.now c.args.rows.now 1 (map column_is c.args.columns.now)) in
    let after1 = goes_on _ _ _ _ _ part1 part2 (starts _ _) refl c.in_ok-write_row_heads.ensures.written in
    record {
      written = closes _ _ _ _ _ c.write_columns.result after1 c.write_columns.ensures.written;
    }
