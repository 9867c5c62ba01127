use Rattle.std.proofs.Common.{◌<◌, length, refl, sym, ap, ◌∙◌, arith}
use Rattle.superstep_machine.specs.Run.{is_over}
use Rattle.worker_steps.specs.Stretch.{rank}
use Rattle.worker_exchange.specs.Shown.{way_is}
use Rattle.worker_exchange.specs.Equipped.{left}
use Rattle.bsp_machine.proofs.LeftLemmas.{none_left, some_left, either_way}
use Rattle.workers.proofs.PlayLemmas.{none_yet, worked_on, left_few, one_more}
use Rattle.workers.proofs.play.work.Goals as goal

pub exchanges-init : goal.exchanges-init
exchanges-init g c =
    let none = ap length c.requires.fresh.0 in
    record {
      owner = record { table = refl; worker = refl; workers = refl; room = refl };
      reserve = refl;
      kept = refl;
      few = omega (arith, none);
      worked = λ states told b. none_yet c.args.code.now (g.M.AddressMap.shape c.args.map.now) c.args.bound states told c.args.seat.worker
          c.args.seat c.args.worker c.requires.fresh.0 c.requires.fresh.1 c.requires.runs b;
    }

pub exchange-seat-requires-clause-going : goal.exchange-seat-requires-clause-going
exchange-seat-requires-clause-going g c =
    let s = c.requires.somewhere in
    (c.exchanges.invariant.worked s.states s.told s.between).between.going (sym c.is_over.ensures ∙ c.exchanges-test.true)

pub exchange-seat-requires-clause-few : goal.exchange-seat-requires-clause-few
exchange-seat-requires-clause-few g c =
    let few = c.exchanges.invariant.few in
    let all = left_few c.args.code.now c.args.bound c.args.worker.local c.instructions-instructions.ensures.stands (omega arith) in
    omega (arith, few, all)

pub exchanges-smaller : goal.exchanges-smaller
exchanges-smaller g c =
    let code = c.args.code.now in
    let bound = c.args.bound in
    let x = c.exchanges.worker.local in
    let y = c.exchange-seat.new.worker.local in
    let some = some_left x.way (rank code bound x.steps) (sym c.is_over.ensures ∙ c.exchanges-test.true) in
    either_way {P = left code bound y < left code bound x} (is_over (way_is y.way))
    (λ over. let none = none_left y.way (rank code bound y.steps) over in omega (arith, none, some)) (λ on. c.exchange-seat.ensures.left on)

pub exchanges-preserved : goal.exchanges-preserved
exchanges-preserved g c =
    let code = c.args.code.now in
    let m = g.M.AddressMap.shape c.args.map.now in
    let i = c.exchanges.invariant in
    let e = c.exchange-seat.ensures in
    let on = sym c.is_over.ensures ∙ c.exchanges-test.true in
    record {
      owner = record {
        table = e.owner.table ∙ i.owner.table;
        worker = e.owner.worker ∙ i.owner.worker;
        workers = e.owner.workers ∙ i.owner.workers;
        room = e.owner.room ∙ i.owner.room;
      };
      reserve = e.exchanged.reserve ∙ i.reserve;
      kept = e.exchanged.kept ∙ i.kept;
      few =
          (let few = i.few in
          let less = exchanges-smaller g c in
          let more = one_more c.exchanges.seat c.exchange-seat.result e.exchanged.row e.exchanged.sent in omega (arith, few, less, more));
      worked = λ states told b. worked_on code m c.args.bound states told c.args.seat.worker c.exchanges.seat c.exchange-seat.result
          c.exchanges.worker c.exchange-seat.new.worker on (i.worked states told b) e.exchanged i.owner.worker;
    }
