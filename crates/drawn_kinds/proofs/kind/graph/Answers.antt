use Rattle.std.proofs.Common.{sym}
use Rattle.drawn_kinds.proofs.Worded.{same_graph}
use Rattle.drawn_kinds.proofs.kind.graph.Goals as goal

pub returns-clause-found : goal.returns-clause-found
returns-clause-found c = λ vertices e. same_graph _ vertices (sym e)
