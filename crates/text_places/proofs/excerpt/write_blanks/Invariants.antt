use Rattle.std.proofs.Common.{drop, map}
use Rattle.text_places.specs.Excerpts.{blank_byte}
use Rattle.text_out.proofs.Progress.{Progress}
use Rattle.text_places.proofs.excerpt.write_blanks.Given as goal

abbrev pub invariant-loop-byte : goal.invariant-loop-byte
invariant-loop-byte g l = Progress (g.W.Out.state l.fn.out) (g.W.Out.state l.out) (map blank_byte l.fn.bytes)
    (map blank_byte (drop l.byte-index l.fn.bytes))
