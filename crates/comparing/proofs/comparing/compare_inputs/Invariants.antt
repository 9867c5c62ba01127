use Rattle.std.proofs.Common.{drop, map}
use Rattle.comparing.specs.Found.{found_is, values_of}
use Rattle.comparing.proofs.Gone.{Gone}
use Rattle.comparing.proofs.comparing.compare_inputs.Given as goal

abbrev pub invariant-loop-input : goal.invariant-loop-input
invariant-loop-input l =
    Gone l.fn.precondition l.fn.first l.fn.second l.fn.compared l.fn.bound l.most (map values_of l.fn.inputs)
    (map values_of (drop l.input-index l.fn.inputs)) (found_is l.comparison)
