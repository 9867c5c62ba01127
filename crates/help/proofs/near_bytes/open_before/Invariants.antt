use Rattle.std.proofs.Common.{◌≡◌, ◌≤◌, ◌+◌}
use Rattle.help.specs.Strays.{open_before}
use Rattle.help.proofs.near_bytes.open_before.Given as goal

abbrev pub invariant-loop-i : goal.invariant-loop-i
invariant-loop-i l = record {
  is : open_before l.text l.i l.closed ≡ open_before l.text l.at 0;
  within : l.i + l.closed ≤ l.at;
}

abbrev pub decreases-loop-i : goal.decreases-loop-i
decreases-loop-i l = l.i
