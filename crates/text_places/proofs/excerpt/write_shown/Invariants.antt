use Rattle.std.proofs.Common.{drop}
use Rattle.text_places.specs.Excerpts.{shown}
use Rattle.text_out.proofs.Progress.{Progress}
use Rattle.text_places.proofs.excerpt.write_shown.Given as goal

abbrev pub invariant-loop-byte : goal.invariant-loop-byte
invariant-loop-byte g l = Progress (g.W.Out.state l.fn.out) (g.W.Out.state l.out) (shown l.fn.bytes) (shown (drop l.byte-index l.fn.bytes))
