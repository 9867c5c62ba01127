use Rattle.std.proofs.Common.{ℕ, ℤ}
use Rattle.pram_meaning.specs.Attempt.{Effect}
use Rattle.statement_evaluation.proofs.Columns.{least_fault_is_noted, none_differ, together_is_noted}
use Rattle.statement_evaluation.proofs.Cuts.{alone_is_noted}
use Rattle.statement_evaluation.proofs.Order.{one_order}
use Rattle.statement_evaluation.proofs.evaluation_laws.least_fault_is_noted.Goals as goal

pub returns : goal.returns
returns c = record {
  least = least_fault_is_noted;
  together = together_is_noted;
  values_alone = alone_is_noted ℤ;
  effects_alone = alone_is_noted Effect;
  bounds_alone = alone_is_noted (ℤ × ℤ);
  ranges_alone = alone_is_noted (ℤ × ℕ);
  order = one_order;
  kinds = none_differ;
}
