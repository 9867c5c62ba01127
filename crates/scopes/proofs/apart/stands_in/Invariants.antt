use Rattle.std.proofs.Common.{◌≡◌, ℤ, drop}
use Rattle.std.specs.List.{list_any}
use Rattle.scopes.specs.Lists.{same_value}
use Rattle.scopes.proofs.apart.stands_in.Given as goal

-- the values that are left say whether it stands there
abbrev pub invariant-loop-other : goal.invariant-loop-other
invariant-loop-other l =
    list_any (λ (v : ℤ). same_value v l.fn.value) (drop l.other-index l.fn.front) ≡ list_any (λ (v : ℤ). same_value v l.fn.value) l.fn.front
