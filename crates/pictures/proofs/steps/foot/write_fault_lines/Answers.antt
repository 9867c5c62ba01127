use Rattle.std.proofs.Common.{refl}
use Rattle.std.proofs.Common.{◌+◌}
use Rattle.svg_texts.specs.Shapes.{shape_text}
use Rattle.pictures.specs.Faults.{fault_line}
use Rattle.pictures.specs.Steps.Picture.{met_line}
use Rattle.text_out.proofs.Progress.{breaks_off, closes, goes_on, starts}
use Rattle.pictures.proofs.steps.foot.write_fault_lines.Goals as goal

pub returns-in_err-write_fault_line : goal.returns-in_err-write_fault_line
returns-in_err-write_fault_line g c =
    let part1 = shape_text (fault_line c.args.layout.now c.args.y c.args.fault.now) in
    let part2 = shape_text (met_line (c.args.y + 18) c.args.met.now) in
    record {
      written = breaks_off _ _ _ _ _ part1 part2 c.from_residual.result _ c.from_residual.ensures.1 (starts _ _) refl
          c.in_err-write_fault_line.ensures.written;
    }

pub returns : goal.returns
returns g c =
    let part1 = shape_text (fault_line c.args.layout.now c.args.y c.args.fault.now) in
    let part2 = shape_text (met_line (c.args.y + 18) c.args.met.now) in
    let after1 = goes_on _ _ _ _ _ part1 part2 (starts _ _) refl c.in_ok-write_fault_line.ensures.written in
    record {
      written = closes _ _ _ _ _ c.write_met_line.result after1 c.write_met_line.ensures.written;
    }
