use Rattle.std.proofs.Common.{◌≡◌, ◌++◌, ◌≤◌, length, map}
use Rattle.std.specs.Prelude.{vec_capacity}
use Rattle.std.specs.Vec.Iter.{into_iter_items, into_iter_len}
use Rattle.workers.specs.Crews.{runner_of}
use Rattle.workers.proofs.threads.start_all.Given as goal

abbrev pub invariant-runners : goal.invariant-runners
invariant-runners g l = record {
  rest : l.yielded ++ into_iter_items l.runner-iterator ≡ into_iter_items l.initial.runner-iterator;
  started : map runner_of l.handles.items ≡ l.yielded;
  room : length (into_iter_items l.initial.runner-iterator) ≤ vec_capacity l.handles;
  left : into_iter_len l.runner-iterator ≡ length (into_iter_items l.runner-iterator);
}
