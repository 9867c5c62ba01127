use Rattle.std.proofs.Common.{◌<◌, arith}
use Rattle.worker_steps.specs.Stretch.{rank}
use Rattle.superstep_machine.specs.Run.{is_over}
use Rattle.worker_exchange.specs.Shown.{way_is}
use Rattle.bsp_machine.specs.Ended.{left_first}
use Rattle.worker_histories.proofs.Marking.{there}
use Rattle.bsp_machine.proofs.LeftLemmas.{left_first_at, none_left, some_left, either_way}
use Rattle.bsp_machine.proofs.phase.phase.Goals as goal

pub returns-clause-left : goal.returns-clause-left
returns-clause-left g c =
    let code = c.args.code.now in
    let bound = c.args.bound in
    let olds = c.args.workers.now in
    let mids = c.send_all.new.workers in
    let news = c.receive_all.new.workers in
    let some = c.requires.runnable.map.lawful.one in
    let many = c.requires.workers in
    let mid = c.send_all.ensures.workers in
    let new = c.receive_all.ensures.workers in
    let x = there olds 0 (omega (arith, some, many)) in
    let y = there mids 0 (omega (arith, some, mid)) in
    let z = there news 0 (omega (arith, some, new)) in
    let was = left_first_at code bound olds x.0 x.1 in
    let is = left_first_at code bound news z.0 z.1 in
    let more = some_left x.0.local.way (rank code bound x.0.local.steps) (c.requires.going 0 x.0 x.1).going in
    either_way {P = left_first code bound news < left_first code bound olds} (is_over (way_is z.0.local.way))
    (λ over. let none = none_left z.0.local.way (rank code bound z.0.local.steps) over in omega (arith, was, is, more, none))
    (λ on.
    let one = c.receive_all.ensures.left 0 y.0 z.0 y.1 z.1 on in
    let less = one.1 in
    let few = c.send_all.ensures.fewer 0 x.0 y.0 x.1 y.1 one.0 in omega (arith, was, is, less, few))

pub returns-clause-behind : goal.returns-clause-behind
returns-clause-behind g c = λ input k before. c.receive_all.ensures.behind input k (c.send_all.ensures.at input k before)

pub returns-clause-together : goal.returns-clause-together
returns-clause-together g c = λ input k before. c.receive_all.ensures.together input k (c.send_all.ensures.at input k before)

pub returns-clause-given : goal.returns-clause-given
returns-clause-given g c = λ reserve input k before all.
    c.receive_all.ensures.given reserve input k (c.send_all.ensures.at input k before) (c.send_all.ensures.reserve reserve all)

pub returns-clause-kept : goal.returns-clause-kept
returns-clause-kept g c = λ kept all. c.receive_all.ensures.kept kept (c.send_all.ensures.kept kept all)
