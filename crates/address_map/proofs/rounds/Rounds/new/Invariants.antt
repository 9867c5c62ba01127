use Rattle.address_map.proofs.RoundSteps.{Made}
use Rattle.address_map.proofs.rounds.Rounds.new.Given as goal

abbrev pub invariant-loop-i : goal.invariant-loop-i
invariant-loop-i l = Made l.spread.cells l.fn.rounds l.made l.i
