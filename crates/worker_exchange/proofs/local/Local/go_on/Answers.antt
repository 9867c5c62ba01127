use Rattle.std.proofs.Common.{sym, subst}
use Rattle.superstep_machine.specs.declared.purpose.Purpose.{Purpose}
use Rattle.worker_exchange.specs.declared.way.Way.{Way}
use Rattle.worker_exchange.specs.Arrived.{HasArrived}
use Rattle.worker_exchange.proofs.ArrivedLemmas.{arrived}
use Rattle.worker_exchange.proofs.local.Local.go_on.Goals as goal

pub returns-clause-arrived : goal.returns-clause-arrived
returns-clause-arrived g c = λ m go.
    let code = c.args.code.now in
    let bound = c.args.bound in
    let a = c.args.self.now in
    let y = c.advance.new.self in
    let e = c.in_ok-stop.ensures in
    subst (λ (p : Way × Purpose). HasArrived code m bound a (record a { steps = y; way = p.0; purpose = p.1 }))
    (λ i. (sym c.way_at-self.ensures i, sym c.purpose_at-self.ensures i))
    (arrived code m bound c.instructions-instructions.ensures.stands a y c.requires.on go c.in_ok-stop.stop e.arrives e.stands e.fitted
    e.verified e.count e.same e.rank)
