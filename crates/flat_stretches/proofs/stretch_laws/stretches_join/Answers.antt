use Rattle.flat_stretches.proofs.Joins.{stands_split, stands_join, fine_joins, acts_join, acts_at_once_join, costs_join, counts_join}
use Rattle.flat_stretches.proofs.Joins.{words_join}
use Rattle.flat_stretches.proofs.stretch_laws.stretches_join.Goals as goal

pub returns : goal.returns
returns c = record {
  split = stands_split;
  stand = stands_join;
  fine = fine_joins;
  acts = acts_join;
  at_once = acts_at_once_join;
  costs = costs_join;
  counts = counts_join;
  words = words_join;
}
