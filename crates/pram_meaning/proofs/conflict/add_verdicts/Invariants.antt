use Rattle.pram_meaning.specs.Accesses.{key_of}
use Rattle.pram_meaning.proofs.Folds.{InEach}
use Rattle.pram_meaning.proofs.conflict.add_verdicts.Given as goal

abbrev pub invariant-loop-one : goal.invariant-loop-one
invariant-loop-one l = InEach key_of l.one-items l.one-index l.fn.best l.best
