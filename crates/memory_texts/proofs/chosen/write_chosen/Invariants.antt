use Rattle.std.proofs.Common.{drop}
use Rattle.memory_texts.specs.Chosen.{chosen_lines}
use Rattle.text_out.proofs.Progress.{Progress}
use Rattle.memory_texts.proofs.chosen.write_chosen.Given as goal

abbrev pub invariant-loop-i : goal.invariant-loop-i
invariant-loop-i g l = Progress (g.W.Out.state l.fn.out) (g.W.Out.state l.out) (chosen_lines l.choice l.fn.layout l.fn.memory)
    (chosen_lines l.choice (drop l.i l.fn.layout) l.rest)
