use Rattle.std.proofs.Common.{◌≡◌, ◌++◌, ◌≤◌, length, map}
use Rattle.std.specs.Prelude.{vec_capacity}
use Rattle.std.specs.Vec.Iter.{into_iter_items, into_iter_len}
use Rattle.workers.specs.Crews.{runner_of, AreReports}
use Rattle.workers.proofs.threads.join_all.Given as goal

abbrev pub invariant-handles : goal.invariant-handles
invariant-handles g l = record {
  rest : l.yielded ++ into_iter_items l.handle-iterator ≡ into_iter_items l.initial.handle-iterator;
  reports : AreReports g.T.Deed.done (map runner_of l.yielded) l.reports.items;
  room : length (into_iter_items l.initial.handle-iterator) ≤ vec_capacity l.reports;
  left : into_iter_len l.handle-iterator ≡ length (into_iter_items l.handle-iterator);
}
