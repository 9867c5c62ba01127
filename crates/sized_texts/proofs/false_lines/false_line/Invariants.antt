use Rattle.std.proofs.Common.{◌≡◌, ◌≤◌, ◌-◌, drop, length}
use Rattle.sized_texts.specs.FalseLines.{false_from, false_line}
use Rattle.sized_texts.proofs.false_lines.false_line.Given as goal

abbrev pub invariant-loop-at : goal.invariant-loop-at
invariant-loop-at l = record {
  so : false_line l.text ≡ false_from l.at 0 (drop l.at l.text);
  fits : l.at ≤ length l.text;
}

abbrev pub decreases-loop-at : goal.decreases-loop-at
decreases-loop-at l = length l.text - l.at
