use Rattle.std.proofs.Common.{refl}
use Rattle.svg_texts.specs.Shapes.{shape_text}
use Rattle.pictures.specs.Flows.Columns.{head_frame, place_frame}
use Rattle.text_out.proofs.Progress.{breaks_off, closes, goes_on, starts}
use Rattle.pictures.proofs.flows.faults.write_frames.Goals as goal

pub returns-in_err-write_head_frame : goal.returns-in_err-write_head_frame
returns-in_err-write_head_frame g c =
    let part1 = shape_text (head_frame c.args.x) in
    let part2 = shape_text (place_frame c.args.rows.now c.args.x c.args.fault.now.place) in
    record {
      written = breaks_off _ _ _ _ _ part1 part2 c.from_residual.result _ c.from_residual.ensures.1 (starts _ _) refl
          c.in_err-write_head_frame.ensures.written;
    }

pub returns : goal.returns
returns g c =
    let part1 = shape_text (head_frame c.args.x) in
    let part2 = shape_text (place_frame c.args.rows.now c.args.x c.args.fault.now.place) in
    let after1 = goes_on _ _ _ _ _ part1 part2 (starts _ _) refl c.in_ok-write_head_frame.ensures.written in
    record {
      written = closes _ _ _ _ _ c.write_place_frame.result after1 c.write_place_frame.ensures.written;
    }
