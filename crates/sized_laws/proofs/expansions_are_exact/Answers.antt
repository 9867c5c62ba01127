use Rattle.sized_laws.proofs.Exactly.{texts_expand}
use Rattle.sized_laws.proofs.expansions_are_exact.Goals as goal

pub returns : goal.returns
returns c = texts_expand
