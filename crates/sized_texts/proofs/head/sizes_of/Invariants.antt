use Rattle.std.proofs.Common.{◌≡◌, ◌≤◌, ◌-◌, drop, length}
use Rattle.sized_texts.specs.SizeLines.{head, sizes_of}
use Rattle.sized_texts.proofs.head.sizes_of.Given as goal

abbrev pub invariant-loop-at : goal.invariant-loop-at
invariant-loop-at l = record {
  so : sizes_of l.given l.text ≡ head l.given l.sizes 0 (drop l.at l.text);
  fits : l.at ≤ length l.text;
}

abbrev pub decreases-loop-at : goal.decreases-loop-at
decreases-loop-at l = length l.text - l.at
