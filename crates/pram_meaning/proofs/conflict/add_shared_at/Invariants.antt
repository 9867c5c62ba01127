use Rattle.pram_meaning.specs.Accesses.{shared_key}
use Rattle.pram_meaning.proofs.Folds.{InEach}
use Rattle.pram_meaning.proofs.conflict.add_shared_at.Given as goal

abbrev pub invariant-loop-one : goal.invariant-loop-one
invariant-loop-one l = InEach shared_key l.one-items l.one-index l.fn.best l.best
