use Rattle.std.proofs.Common.{length}
use Rattle.text_out.proofs.Progress.{Progress}
use Rattle.text_out.proofs.writer.Out.write_all.Given as goal

abbrev pub invariant-loop-rest : goal.invariant-loop-rest
invariant-loop-rest g l = Progress (g.Self.Out.state l.fn.self) (g.Self.Out.state l.self) l.fn.bytes l.rest

abbrev pub decreases-loop-rest : goal.decreases-loop-rest
decreases-loop-rest g l = length l.rest
