use Rattle.std.proofs.Common.{◌≡◌, ◌++◌, ◌+◌, ◌≤◌, length, map}
use Rattle.std.specs.Prelude.{vec_capacity}
use Rattle.std.specs.Vec.Iter.{into_iter_items, into_iter_len}
use Rattle.workers.proofs.lists.unused.Given as goal

abbrev pub invariant-tasks : goal.invariant-tasks
invariant-tasks g l =
    let rest = into_iter_items l.task-iterator in
    record {
      seats : l.seats.items ++ map (λ x. x.seat) rest ≡ map (λ x. x.seat) l.fn.tasks.items;
      room : length l.seats.items + length rest ≤ vec_capacity l.seats;
      left : into_iter_len l.task-iterator ≡ length rest;
    }
