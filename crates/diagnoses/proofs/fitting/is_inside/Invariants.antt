use Rattle.std.proofs.Common.{◌≡◌, drop, map}
use Rattle.help.specs.InScope.{known_is}
use Rattle.diagnoses.specs.Fitting.{is_inside}
use Rattle.diagnoses.proofs.fitting.is_inside.Given as goal

abbrev pub invariant-loop-k : goal.invariant-loop-k
invariant-loop-k l = is_inside (map known_is (drop l.k-index l.names)) ≡ is_inside (map known_is l.names)
