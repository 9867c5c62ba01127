use Rattle.std.proofs.Common.{drop}
use Rattle.text_out.specs.Out.{joined}
use Rattle.text_out.proofs.Progress.{Progress}
use Rattle.text_out.proofs.writer.Out.write_parts.Given as goal

abbrev pub invariant-loop-part : goal.invariant-loop-part
invariant-loop-part g l = Progress (g.Self.Out.state l.fn.self) (g.Self.Out.state l.self) (joined l.fn.parts)
    (joined (drop l.part-index l.fn.parts))
