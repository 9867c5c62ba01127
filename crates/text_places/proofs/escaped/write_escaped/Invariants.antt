use Rattle.std.proofs.Common.{length}
use Rattle.text_out.proofs.Progress.{Progress}
use Rattle.text_places.specs.Escaped.{escaped, escaped_from}
use Rattle.text_places.proofs.escaped.write_escaped.Given as goal

abbrev pub invariant-loop-rest : goal.invariant-loop-rest
invariant-loop-rest g l =
    Progress (g.W.Out.state l.fn.out) (g.W.Out.state l.out) (escaped l.fn.name) (escaped_from l.left l.rest)

abbrev pub decreases-loop-rest : goal.decreases-loop-rest
decreases-loop-rest g l = length l.rest
