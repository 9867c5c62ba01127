use Rattle.pram_meaning.specs.Conflict.{fault_of}
use Rattle.pram_meaning.specs.Judging.{part_is}
use Rattle.pram_meaning.proofs.Folds.{InFold}
use Rattle.pram_meaning.proofs.conflict.add_faults.Given as goal

abbrev pub invariant-loop-x : goal.invariant-loop-x
invariant-loop-x l = InFold (λ x. fault_of x.processor x.attempt) part_is l.parts l.x-index l.fn.best l.best
