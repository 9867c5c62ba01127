use Rattle.std.proofs.Common.{◌≡◌, length}
use Rattle.std.specs.List.{filter}
use Rattle.scopes.specs.Lists.{AreWithin, are_apart, lists_from}
use Rattle.scopes.proofs.apart.settle.Given as goal

-- of those that are apart none was passed
abbrev pub invariant-loop-at : goal.invariant-loop-at
invariant-loop-at l = record {
  within : AreWithin l.fn.low l.fn.high l.input;
  same : filter are_apart (lists_from l.fn.low l.fn.high l.fn.input) ≡ filter are_apart (lists_from l.fn.low l.fn.high l.input);
}

abbrev pub decreases-loop-at : goal.decreases-loop-at
decreases-loop-at l = length (lists_from l.fn.low l.fn.high l.input)
