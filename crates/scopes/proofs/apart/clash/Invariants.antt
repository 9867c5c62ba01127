use Rattle.std.proofs.Common.{◌≡◌, true, take}
use Rattle.scopes.specs.Lists.{are_apart}
use Rattle.scopes.proofs.apart.clash.Given as goal

-- those before the place are apart
abbrev pub invariant-loop-at : goal.invariant-loop-at
invariant-loop-at l = are_apart (take l.at l.fn.input) ≡ true
