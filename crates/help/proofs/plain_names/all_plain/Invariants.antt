use Rattle.std.proofs.Common.{◌≡◌, map, take}
use Rattle.help.specs.InScope.{known_is}
use Rattle.help.specs.Nearest.{plain}
use Rattle.help.proofs.plain_names.all_plain.Given as goal

abbrev pub invariant-loop-name : goal.invariant-loop-name
invariant-loop-name l = map known_is l.list.items ≡ map (λ n. plain n.items) (take l.name-index l.names)
