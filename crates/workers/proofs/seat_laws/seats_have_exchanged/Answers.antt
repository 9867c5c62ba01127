use Rattle.workers.proofs.ExchangeLemmas.{seats_have_exchanged}
use Rattle.workers.proofs.seat_laws.seats_have_exchanged.Goals as goal

pub returns : goal.returns
returns c = seats_have_exchanged
