use Rattle.std.proofs.Common.{◌<◌, sym, subst, ◌∙◌, arith}
use Rattle.superstep_machine.specs.Setting.{workers}
use Rattle.superstep_machine.specs.Run.{setting, ready, after_exchange, Votes}
use Rattle.superstep_machine.specs.declared.purpose.Purpose.{Purpose}
use Rattle.superstep_machine.specs.Purposes.{purpose_is}
use Rattle.worker_exchange.specs.Shown.{ShowsWorker}
use Rattle.worker_exchange.specs.Received.{messages_to}
use Rattle.worker_exchange.proofs.TakeLemmas.{asks_sent, asks_below}
use Rattle.worker_exchange.proofs.HeardLemmas.{votes_heard}
use Rattle.worker_exchange.proofs.StandLemmas.{vote_placed}
use Rattle.worker_exchange.proofs.receiving.take.Goals as goal

pub returns-in-Send-clause-shows : goal.returns-in-Send-clause-shows
returns-in-Send-clause-shows g c = λ n s enough here.
    let code = c.args.code.now in
    let m = g.M.AddressMap.shape c.args.map.now in
    let t = setting code m c.args.bound n in
    let x = c.args.local.now in
    let w = x.steps.bank.worker in
    let came = g.C.Column.came c.args.column.now in
    let y = (ready t w s).state.worker in
    let below = c.requires.at.equipped.fitted.worker in
    let many = c.requires.at.equipped.workers in
    let lt : w < workers t = omega (arith, below, many) in
    subst (λ (purpose : Purpose). ShowsWorker t w c.take_send.new.local
    (after_exchange t w (purpose_is purpose) y (messages_to code.rule m w (purpose_is purpose) came))) (sym c.in-Send.is)
    (c.take_send.ensures.shows code c.args.bound n y c.requires.rule here.worker
    (asks_sent t c.instructions-instructions.ensures.stands c.requires.runnable x lt s here c.in-Send.is))

pub returns-in-Send-clause-equipped : goal.returns-in-Send-clause-equipped
returns-in-Send-clause-equipped g c = λ n s enough here.
    let code = c.args.code.now in
    let m = g.M.AddressMap.shape c.args.map.now in
    let t = setting code m c.args.bound n in
    let x = c.args.local.now in
    let below = c.requires.at.equipped.fitted.worker in
    let many = c.requires.at.equipped.workers in
    let lt : x.steps.bank.worker < workers t = omega (arith, below, many) in
    c.take_send.ensures.equipped code c.requires.rule
    (asks_below t c.instructions-instructions.ensures.stands c.requires.runnable x lt s here c.in-Send.is
    c.requires.at.equipped) c.requires.at.equipped

pub returns-in-Reply-clause-shows : goal.returns-in-Reply-clause-shows
returns-in-Reply-clause-shows g c = λ n s enough here.
    let code = c.args.code.now in
    let m = g.M.AddressMap.shape c.args.map.now in
    let t = setting code m c.args.bound n in
    let w = c.args.local.now.steps.bank.worker in
    let came = g.C.Column.came c.args.column.now in
    let y = (ready t w s).state.worker in
    subst (λ (purpose : Purpose). ShowsWorker t w c.take_reply.new.local
    (after_exchange t w (purpose_is purpose) y (messages_to code.rule m w (purpose_is purpose) came))) (sym c.in-Reply.is)
    (c.take_reply.ensures.shows code c.args.bound n y here.worker)

pub returns-in-Vote-clause-shows : goal.returns-in-Vote-clause-shows
returns-in-Vote-clause-shows g c = λ n s enough here.
    let code = c.args.code.now in
    let m = g.M.AddressMap.shape c.args.map.now in
    let t = setting code m c.args.bound n in
    let w = c.args.local.now.steps.bank.worker in
    let came = g.C.Column.came c.args.column.now in
    let d = c.in-Vote.destination in
    let y = (ready t w s).state.worker in
    subst (λ (purpose : Purpose). ShowsWorker t w c.take_vote.new.local
    (after_exchange t w (purpose_is purpose) y (messages_to code.rule m w (purpose_is purpose) came))) (sym c.in-Vote.is)
    (c.take_vote.ensures.shows t w y (messages_to code.rule m w (Votes d) came)
    (votes_heard code.rule m w (Votes d) came ∙ sym c.requires.active) here.worker)

pub take_vote-requires : goal.take_vote-requires
take_vote-requires g c = record {
  place = vote_placed c.args.code.now (g.M.AddressMap.shape c.args.map.now) c.args.bound c.args.local.now c.in-Vote.destination
      c.requires.runnable.formed c.requires.at c.in-Vote.is;
}
