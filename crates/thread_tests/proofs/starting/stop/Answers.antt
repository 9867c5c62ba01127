use Rattle.thread_tests.specs.Tested.{MayWait}
use Rattle.thread_tests.proofs.Players.{still_at, at_of_all}
use Rattle.thread_tests.proofs.starting.stop.Goals as goal

pub close-requires-clause-runners : goal.close-requires-clause-runners
close-requires-clause-runners g c =
    still_at c.args.line.table c.args.runners.items c.join-runners.result.0.items
    (λ k r e. (at_of_all (MayWait c.args.line.table) c.args.runners.items k r c.requires.runners e).table) c.join-runners.ensures.first.0
