use Rattle.std.proofs.Common.{◌≡◌, ◌≤◌}
use Rattle.help.specs.Strays.{word_start}
use Rattle.help.proofs.near_bytes.word_start.Given as goal

abbrev pub invariant-loop-i : goal.invariant-loop-i
invariant-loop-i l = record {
  is : word_start l.text l.i ≡ word_start l.text l.at;
  within : l.i ≤ l.at;
}

abbrev pub decreases-loop-i : goal.decreases-loop-i
decreases-loop-i l = l.i
