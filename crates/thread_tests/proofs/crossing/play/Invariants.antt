use Rattle.std.proofs.Common.{◌≡◌, length}
use Rattle.thread_tests.proofs.crossing.play.Given as goal

abbrev pub invariant-loop-phase : goal.invariant-loop-phase
invariant-loop-phase g l = record {
  table : l.seat.table ≡ l.initial.seat.table;
  worker : l.seat.worker ≡ l.initial.seat.worker;
  workers : l.seat.workers ≡ l.initial.seat.workers;
  phases : length l.seat.sent ≡ l.phase;
}
