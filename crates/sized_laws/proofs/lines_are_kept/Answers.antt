use Rattle.sized_laws.proofs.Lines.{kept}
use Rattle.sized_laws.proofs.lines_are_kept.Goals as goal

pub returns : goal.returns
returns c = kept
