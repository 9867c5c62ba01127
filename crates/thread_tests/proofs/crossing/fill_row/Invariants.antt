use Rattle.std.proofs.Common.{◌≡◌}
use Rattle.thread_tests.proofs.crossing.fill_row.Given as goal

abbrev pub invariant-loop-to : goal.invariant-loop-to
invariant-loop-to g l = l.seat ≡ record l.initial.seat { row = l.seat.row }
