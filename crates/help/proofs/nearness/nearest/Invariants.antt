use Rattle.std.proofs.Common.{◌≡◌, drop, map}
use Rattle.std.specs.List.{fold}
use Rattle.std.specs.Option.{option_map}
use Rattle.help.specs.InScope.{known_is}
use Rattle.help.specs.Nearness.{nearer, nearest}
use Rattle.help.proofs.nearness.nearest.Given as goal

abbrev pub invariant-loop-k : goal.invariant-loop-k
invariant-loop-k l =
    fold (nearer l.word) (option_map known_is l.best) (map known_is (drop l.k-index l.names)) ≡ nearest (map known_is l.names) l.word
