use Rattle.drawn_kinds.proofs.Worded.{spelled_back}
use Rattle.drawn_kinds.proofs.kind_laws.written_kinds_are_named.Goals as goal

pub returns : goal.returns
returns c = spelled_back
