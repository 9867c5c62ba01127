use Rattle.superstep_machine.proofs.KeyOrder.{by_earlier_statement, by_lesser_position, by_lesser_class, by_earlier_place, first_same}
use Rattle.superstep_machine.proofs.KeyOrder.{first_total}
use Rattle.superstep_machine.proofs.collected_law.order_of_keys.Goals as goal

pub returns : goal.returns
returns c = record {
  statement = by_earlier_statement;
  position = by_lesser_position;
  class = by_lesser_class;
  place = by_earlier_place;
  one = first_same;
  some = first_total;
}
