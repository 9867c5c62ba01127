use Rattle.std.proofs.Common.{◌≡◌, ◌++◌, ◌+◌, ◌≤◌, length, map}
use Rattle.std.specs.Prelude.{vec_capacity}
use Rattle.std.specs.Vec.Iter.{into_iter_items, into_iter_len}
use Rattle.workers.proofs.lists.unzipped.Given as goal

abbrev pub invariant-played : goal.invariant-played
invariant-played l =
    let rest = into_iter_items l.seat-iterator in
    record {
      seats : l.seats.items ++ map (λ y. y.0) rest ≡ map (λ y. y.0) l.fn.played.items;
      workers : l.workers.items ++ map (λ y. y.1) rest ≡ map (λ y. y.1) l.fn.played.items;
      seats_room : length l.seats.items + length rest ≤ vec_capacity l.seats;
      workers_room : length l.workers.items + length rest ≤ vec_capacity l.workers;
      left : into_iter_len l.seat-iterator ≡ length rest;
    }
