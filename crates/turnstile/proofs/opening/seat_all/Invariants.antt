use Rattle.std.proofs.Common.{◌≡◌, ◌+◌, ◌≤◌, [], length, vec_capacity}
use Rattle.std.specs.Prelude.{All}
use Rattle.turnstile.specs.Turns.{keeper}
use Rattle.turnstile.specs.Benches.{IsBare, AreSeated}
use Rattle.turnstile.proofs.opening.seat_all.Given as goal

abbrev pub invariant-loop-worker : goal.invariant-loop-worker
invariant-loop-worker l = record {
  seated : AreSeated l.initial.root.table_id l.workers l.board.key.room l.worker l.seats.items;
  room : l.workers ≤ vec_capacity l.seats;
  table : l.root.table_id ≡ l.initial.root.table_id;
  id : l.root.id ≡ l.initial.root.id;
  root : l.root.me ≡ (keeper l.board.key l.workers l.worker [], []);
  count : l.worker + length l.benches.items ≡ l.workers;
  bare : All (IsBare l.workers) l.benches.items;
}
