use Rattle.sized_laws.proofs.Exactly.{texts_are_filled}
use Rattle.sized_laws.proofs.fillings_are_exact.Goals as goal

pub returns : goal.returns
returns c = texts_are_filled
