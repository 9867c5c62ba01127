use Rattle.std.proofs.Common.{◌≡◌, drop}
use Rattle.std.specs.List.{list_all}
use Rattle.scopes.specs.Wrong.{is_within}
use Rattle.scopes.proofs.belonging.are_within.Given as goal

-- the values that are left say whether all are within
abbrev pub invariant-loop-value : goal.invariant-loop-value
invariant-loop-value l =
    list_all (is_within l.fn.low l.fn.high) (drop l.value-index l.fn.input) ≡ list_all (is_within l.fn.low l.fn.high) l.fn.input
