use Rattle.run_tests.proofs.Pairs.{new_seats}
use Rattle.run_tests.proofs.caller.seat_both.Goals as goal

pub returns-clause-first : goal.returns-clause-first
returns-clause-first c =
    (new_seats c.in-Ok.turnstile c.in-Ok.seats.items c.pop.new.self.items c.pop-2.new.self.items c.in_ok-first.first c.in_ok-second.second
    c.in-Ok.ensures.workers c.in_ok-second.ensures.items c.in_ok-first.ensures.items c.in-Ok.ensures.seats c.in-Ok.ensures.fresh).0

pub returns-clause-second : goal.returns-clause-second
returns-clause-second c =
    (new_seats c.in-Ok.turnstile c.in-Ok.seats.items c.pop.new.self.items c.pop-2.new.self.items c.in_ok-first.first c.in_ok-second.second
    c.in-Ok.ensures.workers c.in_ok-second.ensures.items c.in_ok-first.ensures.items c.in-Ok.ensures.seats c.in-Ok.ensures.fresh).1
