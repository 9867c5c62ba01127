use Rattle.std.proofs.Common.{◌≡◌, ◌++◌, drop, map}
use Rattle.std.specs.List.{flat_map}
use Rattle.help.specs.InScope.{known_is, local_before}
use Rattle.help.proofs.in_scope.add_locals.Given as goal

abbrev pub invariant-loop-x : goal.invariant-loop-x
invariant-loop-x l = map known_is l.names.items ++ flat_map (local_before l.at) (drop l.x-index l.locals)
    ≡ map known_is l.fn.names.items ++ flat_map (local_before l.at) l.locals
