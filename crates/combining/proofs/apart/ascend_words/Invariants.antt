use Rattle.std.proofs.Common.{◌≤◌, ◌^◌, ℕ, drop}
use Rattle.combining.specs.Alone.{AscendTo}
use Rattle.combining.proofs.apart.ascend_words.Given as goal

abbrev pub invariant-loop-i : goal.invariant-loop-i
invariant-loop-i l = record {
  ascend : (k : ℕ) → AscendTo l.least (drop l.i l.words) k → AscendTo l.from l.words k;
  single : l.least ≤ 2 ^ 23;
}
