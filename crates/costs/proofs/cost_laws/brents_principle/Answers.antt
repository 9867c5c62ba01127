use Rattle.costs.proofs.Brent.{brent}
use Rattle.costs.proofs.cost_laws.brents_principle.Goals as goal

pub returns : goal.returns
returns c = brent
