use Rattle.std.proofs.lemmas.Result.{on_ok_weaker}
use Rattle.worker_exchange.proofs.RoomLemmas.{still_shown, still_going_on}
use Rattle.worker_exchange.proofs.local.Local.reserve.Goals as goal

pub returns-clause-shown : goal.returns-clause-shown
returns-clause-shown c = on_ok_weaker c.reserve.result (λ same. still_shown c.args.self.now c.reserve.new.u same) c.reserve.ensures.same

pub returns-clause-going : goal.returns-clause-going
returns-clause-going c = on_ok_weaker c.reserve.result (λ same. still_going_on c.args.self.now c.reserve.new.u same) c.reserve.ensures.same
