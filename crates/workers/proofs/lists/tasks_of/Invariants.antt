use Rattle.std.proofs.Common.{◌≡◌, ◌++◌, ◌≤◌, ◌+◌, length}
use Rattle.std.specs.Prelude.{vec_capacity}
use Rattle.std.specs.List.{AllByRecursion}
use Rattle.std.specs.Vec.Iter.{into_iter_items, into_iter_len}
use Rattle.workers.specs.Tasks.{IsReady, RunState, tasks_for}
use Rattle.workers.proofs.lists.tasks_of.Given as goal

abbrev pub invariant-seats : goal.invariant-seats
invariant-seats g l =
    let run : RunState g.row.M.Denot = record { turnstile = l.turnstile; code = l.code; map = l.map; bound = l.bound } in
    let left = tasks_for run (into_iter_items l.seat-iterator) l.workers.items in
    record {
      made : l.tasks.items ++ left ≡ tasks_for run l.fn.seats.items l.fn.workers.items;
      ready : AllByRecursion (IsReady g.M.AddressMap.shape) left;
      count : length l.workers.items ≡ length (into_iter_items l.seat-iterator);
      room : length l.tasks.items + length (into_iter_items l.seat-iterator) ≤ vec_capacity l.tasks;
      left : into_iter_len l.seat-iterator ≡ length (into_iter_items l.seat-iterator);
    }
