use Rattle.std.proofs.Common.{drop}
use Rattle.text_out.proofs.Progress.{Progress}
use Rattle.pages.specs.Facts.{embedded}
use Rattle.pages.proofs.facts.write_lines.Given as goal

abbrev pub invariant-loop-byte : goal.invariant-loop-byte
invariant-loop-byte g l = Progress (g.W.Out.state l.fn.out) (g.W.Out.state l.out) (embedded l.fn.facts)
    (embedded (drop l.byte-index l.fn.facts))
