use Rattle.superstep_machine.proofs.KeyOrder.{keys_are_monoid, least_again}
use Rattle.superstep_machine.proofs.Collected.{entries_are_monoid, combining_carries, askers_are_monoid}
use Rattle.superstep_machine.proofs.collected_law.collected_in_any_order.Goals as goal

pub returns : goal.returns
returns c = record {
  keys = keys_are_monoid;
  again = least_again;
  entries = entries_are_monoid;
  carried = combining_carries;
  askers =
      askers_are_monoid;
}
