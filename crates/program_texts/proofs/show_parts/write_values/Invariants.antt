use Rattle.std.proofs.Common.{drop}
use Rattle.program_texts.specs.Shown.{spaced}
use Rattle.text_out.proofs.Progress.{Progress}
use Rattle.program_texts.proofs.show_parts.write_values.Given as goal

abbrev pub invariant-loop-value : goal.invariant-loop-value
invariant-loop-value g l = Progress (g.W.Out.state l.fn.out) (g.W.Out.state l.out) (spaced l.fn.values)
    (spaced (drop l.value-index l.fn.values))
