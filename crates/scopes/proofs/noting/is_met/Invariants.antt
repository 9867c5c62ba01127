use Rattle.std.proofs.Common.{◌≡◌, drop, map}
use Rattle.std.specs.List.{list_any}
use Rattle.scopes.specs.Firsts.{Met, are_alike}
use Rattle.scopes.specs.Found.{met_is}
use Rattle.scopes.proofs.noting.is_met.Given as goal

-- the faults that are left say whether one is like it
abbrev pub invariant-loop-found : goal.invariant-loop-found
invariant-loop-found l =
    list_any (λ (m : Met). are_alike m.fault l.fn.fault) (map met_is (drop l.found-index l.fn.faults))
    ≡ list_any (λ (m : Met). are_alike m.fault l.fn.fault) (map met_is l.fn.faults)
