use Rattle.std.proofs.Common.{refl}
use Rattle.std.proofs.Common.{◌/◌}
use Rattle.svg_texts.specs.Shapes.{shape_text}
use Rattle.tracer.specs.Picture.{ticks_of}
use Rattle.text_out.proofs.Progress.{breaks_off, closes, goes_on, starts}
use Rattle.tracer.proofs.scale.write_ticks.Goals as goal

pub returns-in_err-write_ticks_of : goal.returns-in_err-write_ticks_of
returns-in_err-write_ticks_of g c =
    let part1 = shape_text (ticks_of c.args.most (c.args.most / 2)) in
    let part2 = shape_text (ticks_of c.args.most c.args.most) in
    record {
      written = breaks_off _ _ _ _ _ part1 part2 c.from_residual.result _ c.from_residual.ensures.1 (starts _ _) refl
          c.in_err-write_ticks_of.ensures.written;
    }

pub returns : goal.returns
returns g c =
    let part1 = shape_text (ticks_of c.args.most (c.args.most / 2)) in
    let part2 = shape_text (ticks_of c.args.most c.args.most) in
    let after1 = goes_on _ _ _ _ _ part1 part2 (starts _ _) refl c.in_ok-write_ticks_of.ensures.written in
    record {
      written = closes _ _ _ _ _ c.write_ticks_of-2.result after1 c.write_ticks_of-2.ensures.written;
    }
