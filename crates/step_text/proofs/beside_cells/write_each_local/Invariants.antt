use Rattle.std.proofs.Common.{None, drop}
use Rattle.text_out.proofs.Progress.{Progress}
use Rattle.step_text.specs.BesideCells.{each_local_text}
use Rattle.step_text.proofs.beside_cells.write_each_local.Given as goal

abbrev pub invariant-loop-local : goal.invariant-loop-local
invariant-loop-local g l = Progress (g.W.Out.state l.fn.out) (g.W.Out.state l.out) (each_local_text l.fn.tree l.fn.at None l.fn.locals)
    (each_local_text l.fn.tree l.fn.at l.before (drop l.local-index l.fn.locals))
