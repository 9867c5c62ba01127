use Rattle.std.proofs.Common.{◌≡◌, drop, map}
use Rattle.help.specs.InScope.{known_is}
use Rattle.help.specs.Nearness.{named}
use Rattle.help.proofs.nearness.find.Given as goal

abbrev pub invariant-loop-k : goal.invariant-loop-k
invariant-loop-k l = named (map known_is (drop l.k-index l.names)) l.word ≡ named (map known_is l.names) l.word
