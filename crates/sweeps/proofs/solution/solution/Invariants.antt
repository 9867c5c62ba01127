use Rattle.sweeps.proofs.Solved.{IsKnown}
use Rattle.sweeps.proofs.solution.solution.Given as goal

abbrev pub invariant-loop-step : goal.invariant-loop-step
invariant-loop-step l = IsKnown l.pivots l.known l.step
