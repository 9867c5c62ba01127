use Rattle.thread_tests.proofs.Players.{still_seats}
use Rattle.thread_tests.proofs.crossing.cross_often.Goals as goal

pub close-requires : goal.close-requires
close-requires g c = record {
  seats =
      still_seats c.args.turnstile c.args.seats.items c.play_all-seats.result.items c.requires.seats.0 c.play_all-seats.ensures.seats;
}
