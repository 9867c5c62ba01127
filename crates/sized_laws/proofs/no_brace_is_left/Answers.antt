use Rattle.sized_laws.proofs.Braces.{none_left}
use Rattle.sized_laws.proofs.no_brace_is_left.Goals as goal

pub returns : goal.returns
returns c = none_left
