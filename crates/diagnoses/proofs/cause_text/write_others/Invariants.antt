use Rattle.std.proofs.Common.{codes, drop}
use Rattle.text_out.proofs.Progress.{Progress}
use Rattle.diagnoses.specs.FaultTexts.{writes_text}
use Rattle.diagnoses.proofs.cause_text.write_others.Given as goal

abbrev pub invariant-loop-write : goal.invariant-loop-write
invariant-loop-write g l = Progress (g.W.Out.state l.fn.out) (g.W.Out.state l.out) (writes_text (codes ",") l.fn.writes)
    (writes_text (codes ",") (drop l.write-index l.fn.writes))
