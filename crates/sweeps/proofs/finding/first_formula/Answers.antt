use Rattle.sweeps.proofs.Candidates.{not_after}
use Rattle.sweeps.proofs.finding.first_formula.Goals as goal

pub returns-in-Some : goal.returns-in-Some
returns-in-Some c = record {
  candidate = c.in-Some.ensures.0;
  first = λ g one.
      not_after c.in-Some.formula g c.loop-count.count c.in-Some.ensures.1 (c.loop-count.invariant g one) (c.in-Some.ensures.2 g one);
}
