use Rattle.flat_stretches.proofs.Leaving.{folds_leave}
use Rattle.flat_stretches.proofs.Folds as folds
use Rattle.flat_stretches.proofs.stretch_laws.stretches_are_folds.Goals as goal

pub returns : goal.returns
returns c = record {
  folds = folds.stretches_are_folds;
  counted = folds.costs_are_counted;
  alone = folds.accesses_alone;
  bare = folds.folds_stay_bare;
  free = folds.nothing_costs_nothing;
  leaves = folds_leave;
}
