use Rattle.pages.proofs.Tailing.{Tailing}
use Rattle.pages.proofs.cut.tail.Given as goal

abbrev pub invariant-loop-at : goal.invariant-loop-at
invariant-loop-at l = Tailing l.facts l.at l.size l.found.at l.found.size

abbrev pub decreases-loop-at : goal.decreases-loop-at
decreases-loop-at l = l.at
