use Rattle.std.proofs.Common.{ap}
use Rattle.text_out.proofs.Writing.{writes_stopped}
use Rattle.text_out.proofs.Progress.{goes_on, starts, stops}
use Rattle.svg_texts.specs.Shapes.{shape_text}
use Rattle.pictures.proofs.OfSizes.TickTexts.{ticks_at}
use Rattle.pictures.proofs.sizes.panel.write_ticks.Goals as goal

pub loop-k-init : goal.loop-k-init
loop-k-init g c = starts _ _

pub returns-in_err-write_tick : goal.returns-in_err-write_tick
returns-in_err-write_tick g c =
    let at = ap shape_text (ticks_at c.args.frame c.loop-k.k c.from.result c.step.result c.loop-k-test.true c.from.ensures
    c.step.ensures.step) in
    record {
      written = writes_stopped _ _ _ c.from_residual.result _ c.from_residual.ensures.1
          (stops _ _ _ _ _ _ _ c.loop-k.invariant at c.in_err-write_tick.ensures.written);
    }

pub loop-k-preserved : goal.loop-k-preserved
loop-k-preserved g c =
    let at = ap shape_text (ticks_at c.args.frame c.loop-k.k c.from.result c.step.result c.loop-k-test.true c.from.ensures
    c.step.ensures.step) in
    goes_on _ _ _ _ _ _ _ c.loop-k.invariant at c.in_ok-write_tick.ensures.written
