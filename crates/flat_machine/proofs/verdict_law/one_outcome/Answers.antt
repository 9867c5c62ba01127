use Rattle.flat_machine.proofs.Outcomes as outcomes
use Rattle.flat_machine.proofs.verdict_law.one_outcome.Goals as goal

pub returns : goal.returns
returns c = outcomes.one_outcome
