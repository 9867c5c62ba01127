use Rattle.std.proofs.Common.{◌++◌, sym}
use Rattle.std.proofs.Common.{◌+◌}
use Rattle.std.proofs.Common.{◌-◌}
use Rattle.svg_texts.specs.Shapes.{shape_text}
use Rattle.tracer.specs.Picture.{tick}
use Rattle.text_out.proofs.Progress.{breaks_off, closes, goes_on, starts}
use Rattle.tracer.proofs.scale.write_two_ticks.Goals as goal

pub returns-in_err-write_tick : goal.returns-in_err-write_tick
returns-in_err-write_tick g c =
    let part1 = shape_text (tick (214 - c.bar_height-height.result) c.args.number) in
    let part2 = shape_text (tick (214 + c.bar_height-height.result) c.args.number) in
    record {
      written = breaks_off _ _ _ _ _ part1 part2 c.from_residual.result _ c.from_residual.ensures.1 (starts _ _) (λ i. shape_text (tick
          (214 - (sym c.bar_height-height.ensures.height i)) c.args.number) ++ shape_text (tick (214 + (sym
          c.bar_height-height.ensures.height i)) c.args.number)) c.in_err-write_tick.ensures.written;
    }

pub returns : goal.returns
returns g c =
    let part1 = shape_text (tick (214 - c.bar_height-height.result) c.args.number) in
    let part2 = shape_text (tick (214 + c.bar_height-height.result) c.args.number) in
    let after1 = goes_on _ _ _ _ _ part1 part2 (starts _ _) (λ i. shape_text (tick (214 - (sym c.bar_height-height.ensures.height i))
    c.args.number) ++ shape_text (tick (214 + (sym c.bar_height-height.ensures.height i)) c.args.number))
    c.in_ok-write_tick.ensures.written in
    record {
      written = closes _ _ _ _ _ c.write_tick-2.result after1 c.write_tick-2.ensures.written;
    }
