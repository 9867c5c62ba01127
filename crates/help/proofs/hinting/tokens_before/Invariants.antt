use Rattle.std.proofs.Common.{◌≡◌, ◌+◌, ◌-◌, ◌≤◌, length, drop}
use Rattle.std.specs.List.{prefix_len}
use Rattle.std.specs.Prelude.{nat_lt}
use Rattle.help.proofs.hinting.tokens_before.Given as goal

abbrev pub invariant-loop-count : goal.invariant-loop-count
invariant-loop-count l = record {
  is : l.count + prefix_len (λ o. nat_lt o l.at) (drop l.count l.offsets) ≡ prefix_len (λ o. nat_lt o l.at) l.offsets;
  within : l.count ≤ length l.offsets;
}

abbrev pub decreases-loop-count : goal.decreases-loop-count
decreases-loop-count l = length l.offsets - l.count
