use Rattle.std.proofs.Common.{◌-◌}
use Rattle.text_out.proofs.Progress.{Progress}
use Rattle.svg_texts.specs.Shapes.{shape_text}
use Rattle.tracer.specs.Picture.{worker_numbers}
use Rattle.tracer.proofs.bars.write_worker_numbers.Given as goal

abbrev pub invariant-workers : goal.invariant-workers
invariant-workers g l = record {
  progress : Progress (g.W.Out.state l.fn.out) (g.W.Out.state l.out) (shape_text (worker_numbers l.x 0 l.workers))
      (shape_text (worker_numbers l.x l.w (l.workers - l.w)));
}
