use Rattle.std.proofs.Common.{inr}
use Rattle.thread_tests.proofs.Players.{still_at, all_waited}
use Rattle.thread_tests.proofs.starting.go.Goals as goal

pub close-requires-clause-runners : goal.close-requires-clause-runners
close-requires-clause-runners g c =
    still_at c.args.line.table c.args.runners.items c.join-runners.result.0.items c.requires.runners.tables c.join-runners.ensures.first.0

pub close-requires-clause-over : goal.close-requires-clause-over
close-requires-clause-over g c =
    inr (
      c.args.items.items,
      c.join-runners.ensures.second.1,
      all_waited c.args.line.table c.args.line.runners c.args.runners.items c.join-runners.result.0.items c.requires.runners
          c.join-runners.ensures.first.0 c.join-runners.ensures.first.1,
    )
