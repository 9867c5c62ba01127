use Rattle.std.proofs.Common.{◌-◌}
use Rattle.pages.proofs.Fronting.{Fronting}
use Rattle.pages.proofs.cut.front.Given as goal

abbrev pub invariant-loop-at : goal.invariant-loop-at
invariant-loop-at l = Fronting l.first l.most l.beside l.whole l.size l.at

abbrev pub decreases-loop-at : goal.decreases-loop-at
decreases-loop-at l = l.most - l.at
