use Rattle.std.specs.Prelude.{All}
use Rattle.thread_tests.specs.Tested.{MayWait}
use Rattle.thread_tests.proofs.starting.stop_without.Given as goal

abbrev pub invariant-loop : goal.invariant-loop
invariant-loop g l = All (MayWait l.line.table) l.runners.items
