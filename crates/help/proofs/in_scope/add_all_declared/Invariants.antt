use Rattle.std.proofs.Common.{◌≡◌, ◌++◌, drop, map}
use Rattle.std.specs.List.{flat_map}
use Rattle.help.specs.InScope.{declared_before, known_is}
use Rattle.help.proofs.in_scope.add_all_declared.Given as goal

abbrev pub invariant-loop-d : goal.invariant-loop-d
invariant-loop-d l = map known_is l.names.items ++ flat_map (declared_before l.at) (drop l.d-index l.declarations)
    ≡ map known_is l.fn.names.items ++ flat_map (declared_before l.at) l.declarations
