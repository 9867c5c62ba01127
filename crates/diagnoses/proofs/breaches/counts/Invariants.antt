use Rattle.std.proofs.Common.{◌≡◌, drop}
use Rattle.diagnoses.specs.Breaches.{counts}
use Rattle.diagnoses.proofs.breaches.counts.Given as goal

abbrev pub invariant-loop-byte : goal.invariant-loop-byte
invariant-loop-byte l = counts (drop l.byte-index l.text) ≡ counts l.text
