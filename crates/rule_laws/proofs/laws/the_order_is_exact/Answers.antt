use Rattle.rule_laws.proofs.ToldApart.{order_is_all, order_is_kept, sum_needs_values}
use Rattle.rule_laws.proofs.laws.the_order_is_exact.Goals as goal

pub returns-clause-kept : goal.returns-clause-kept
returns-clause-kept c = order_is_kept

pub returns-clause-all : goal.returns-clause-all
returns-clause-all c = order_is_all

pub returns-clause-needed : goal.returns-clause-needed
returns-clause-needed c = sum_needs_values
