use Rattle.sized_laws.proofs.Again.{final}
use Rattle.sized_laws.proofs.expansions_are_final.Goals as goal

pub returns : goal.returns
returns c = final
