use Rattle.std.proofs.Common.{◌-◌}
use Rattle.text_out.proofs.Progress.{Progress}
use Rattle.svg_texts.specs.Shapes.{shape_text}
use Rattle.pictures.specs.Sizes.Picture.{ticks, ticks_from}
use Rattle.pictures.proofs.sizes.panel.write_ticks.Given as goal

abbrev pub invariant-loop-k : goal.invariant-loop-k
invariant-loop-k g l = Progress (g.W.Out.state l.fn.out) (g.W.Out.state l.out) (shape_text (ticks l.frame)) (shape_text (ticks_from
    l.frame l.k (6 - l.k)))
