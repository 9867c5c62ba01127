use Rattle.std.proofs.Common.{refl}
use Rattle.svg_texts.specs.declared.lettering.Anchor.TheVariants as anchor
use Rattle.svg_texts.specs.Shapes.{shape_text}
use Rattle.pictures.specs.Flows.Rows.{row_name}
use Rattle.pictures.specs.Flows.MarkShapes.{value_shape}
use Rattle.text_out.proofs.Progress.{breaks_off, closes, goes_on, starts}
use Rattle.pictures.proofs.flows.row_heads.write_row_words.Goals as goal

pub returns-in_err-write_row_name : goal.returns-in_err-write_row_name
returns-in_err-write_row_name g c =
    let part1 = shape_text (row_name c.args.layout.now c.args.y c.args.cell) in
    let part2 = shape_text (value_shape 192 c.args.y anchor.End c.args.value.now) in
    record {
      written = breaks_off _ _ _ _ _ part1 part2 c.from_residual.result _ c.from_residual.ensures.1 (starts _ _) refl
          c.in_err-write_row_name.ensures.written;
    }

pub returns : goal.returns
returns g c =
    let part1 = shape_text (row_name c.args.layout.now c.args.y c.args.cell) in
    let part2 = shape_text (value_shape 192 c.args.y anchor.End c.args.value.now) in
    let after1 = goes_on _ _ _ _ _ part1 part2 (starts _ _) refl c.in_ok-write_row_name.ensures.written in
    record {
      written = closes _ _ _ _ _ c.write_value.result after1 c.write_value.ensures.written;
    }
