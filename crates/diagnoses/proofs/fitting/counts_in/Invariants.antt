use Rattle.std.proofs.Common.{◌≡◌, drop}
use Rattle.diagnoses.specs.Fitting.{counts_in}
use Rattle.diagnoses.proofs.fitting.counts_in.Given as goal

abbrev pub invariant-loop-i : goal.invariant-loop-i
invariant-loop-i l = counts_in l.tokens (drop l.i-index l.blocks) l.name ≡ counts_in l.tokens l.blocks l.name
