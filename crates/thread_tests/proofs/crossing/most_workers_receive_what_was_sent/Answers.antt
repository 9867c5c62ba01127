use Rattle.thread_tests.specs.Tested.{MayPlay}
use Rattle.thread_tests.proofs.Players.{all_of_at}
use Rattle.thread_tests.proofs.crossing.most_workers_receive_what_was_sent.Goals as goal

pub cross_often-requires-clause-seats : goal.cross_often-requires-clause-seats
cross_often-requires-clause-seats g c κs =
    let made = c.in_ok-turnstile in
    let e = made.ensures in (
      e.seats,
      all_of_at (MayPlay made.turnstile) made.seats.items
          (λ k r at. record { table = e.seats.tables k r at; workers = (e.fresh k r at).workers; sent = (e.fresh k r at).sent }),
      e.workers,
    )
