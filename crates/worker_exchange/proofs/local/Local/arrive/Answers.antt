use Rattle.std.proofs.lemmas.Result.{on_err_weaker}
use Rattle.instruction_steps.proofs.ReserveLemmas.{keeps_itself}
use Rattle.worker_exchange.proofs.ArrivedLemmas.{ended}
use Rattle.worker_exchange.proofs.PastLemmas.{comes_past}
use Rattle.worker_exchange.proofs.local.Local.arrive.Goals as goal

pub returns-in-On-clause-refused : goal.returns-in-On-clause-refused
returns-in-On-clause-refused g c = on_err_weaker c.go_on.result (λ past items has.
    comes_past c.args.code.now (g.M.AddressMap.shape c.args.map.now) c.args.bound c.args.self.now items c.in-On.is c.requires.going
    (past items has)) c.go_on.ensures.refused

pub returns-in_default : goal.returns-in_default
returns-in_default g c = record {
  arrived = ended c.args.code.now (g.M.AddressMap.shape c.args.map.now) c.args.bound c.args.self.now c.requires.going c.in_default.not-On;
  reserve = keeps_itself c.args.self.now.steps.uniform;
  refused = tt;
}
