use Rattle.std.proofs.Common.{◌++◌, sym}
use Rattle.std.proofs.Common.{◌+◌}
use Rattle.svg_texts.specs.declared.colour.Colour.TheVariants.{Black}
use Rattle.svg_texts.specs.Plain.{line}
use Rattle.svg_texts.specs.Shapes.{shape_text}
use Rattle.text_out.proofs.Progress.{breaks_off, closes, goes_on, starts}
use Rattle.pictures.proofs.sizes.shapes.write_cross.Goals as goal

pub returns-in_err-write_line : goal.returns-in_err-write_line
returns-in_err-write_line g c =
    let part1 = shape_text (line c.saturating_sub.result c.saturating_sub-2.result (c.args.x + 4) (c.args.y + 4) Black) in
    let part2 = shape_text (line (c.args.x + 4) c.saturating_sub-2.result c.saturating_sub.result (c.args.y + 4) Black) in
    record {
      written = breaks_off _ _ _ _ _ part1 part2 c.from_residual.result _ c.from_residual.ensures.1 (starts _ _) (λ i. shape_text (line
          (sym c.saturating_sub.ensures i) (sym c.saturating_sub-2.ensures i) (c.args.x + 4) (c.args.y + 4) Black) ++ shape_text (line
          (c.args.x + 4) (sym c.saturating_sub-2.ensures i) (sym c.saturating_sub.ensures i) (c.args.y + 4) Black))
          c.in_err-write_line.ensures.written;
    }

pub returns : goal.returns
returns g c =
    let part1 = shape_text (line c.saturating_sub.result c.saturating_sub-2.result (c.args.x + 4) (c.args.y + 4) Black) in
    let part2 = shape_text (line (c.args.x + 4) c.saturating_sub-2.result c.saturating_sub.result (c.args.y + 4) Black) in
    let after1 = goes_on _ _ _ _ _ part1 part2 (starts _ _) (λ i. shape_text (line (sym c.saturating_sub.ensures i) (sym
    c.saturating_sub-2.ensures i) (c.args.x + 4) (c.args.y + 4) Black) ++ shape_text (line (c.args.x + 4) (sym
    c.saturating_sub-2.ensures i) (sym c.saturating_sub.ensures i) (c.args.y + 4) Black)) c.in_ok-write_line.ensures.written in
    record {
      written = closes _ _ _ _ _ c.write_line-2.result after1 c.write_line-2.ensures.written;
    }
