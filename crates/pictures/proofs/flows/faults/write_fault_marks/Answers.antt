use Rattle.std.proofs.Common.{refl}
use Rattle.svg_texts.specs.Shapes.{shape_text}
use Rattle.pictures.specs.Flows.Columns.{fault_lines, frames}
use Rattle.text_out.proofs.Progress.{breaks_off, closes, goes_on, starts}
use Rattle.pictures.proofs.flows.faults.write_fault_marks.Goals as goal

pub returns-in_err-write_frames : goal.returns-in_err-write_frames
returns-in_err-write_frames g c =
    let part1 = shape_text (frames c.args.rows.now c.args.x c.args.fault.now) in
    let part2 = shape_text (fault_lines c.args.layout.now c.args.y c.args.fault.now c.args.met.now) in
    record {
      written = breaks_off _ _ _ _ _ part1 part2 c.from_residual.result _ c.from_residual.ensures.1 (starts _ _) refl
          c.in_err-write_frames.ensures.written;
    }

pub returns : goal.returns
returns g c =
    let part1 = shape_text (frames c.args.rows.now c.args.x c.args.fault.now) in
    let part2 = shape_text (fault_lines c.args.layout.now c.args.y c.args.fault.now c.args.met.now) in
    let after1 = goes_on _ _ _ _ _ part1 part2 (starts _ _) refl c.in_ok-write_frames.ensures.written in
    record {
      written = closes _ _ _ _ _ c.write_fault_lines.result after1 c.write_fault_lines.ensures.written;
    }
