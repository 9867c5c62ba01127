use Rattle.std.proofs.Common.{◌≡◌, length}
use Rattle.intervals.specs.Intervals.{IsWithin}
use Rattle.abstract_runs.proofs.Each.{ToEach}
use Rattle.abstract_runs.proofs.covers.grow_all.Given as goal

-- each holds what it held, and those gone over what the other at their place holds
abbrev pub invariant-loop-k : goal.invariant-loop-k
invariant-loop-k l = record {
  same : length l.items.items ≡ length l.fn.items.items;
  left : ToEach IsWithin (length l.fn.items.items) l.fn.items.items l.items.items;
  right : ToEach IsWithin l.k l.fn.others l.items.items;
}
