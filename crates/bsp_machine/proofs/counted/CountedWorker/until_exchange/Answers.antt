use Rattle.std.proofs.Common.{inl, inr, ap, sym, arith}
use Rattle.superstep_machine.specs.declared.mark.HeaderMark.TheVariants.{OutOfMemory}
use Rattle.bsp_machine.specs.Reserves.{own_mark}
use Rattle.bsp_machine.proofs.CountedLemmas.{standing_refused, no_reserve}
use Rattle.bsp_machine.proofs.TallyLemmas.{still_told}
use Rattle.bsp_machine.proofs.counted.CountedWorker.until_exchange.Goals as goal

pub returns-in-Ok-clause-at : goal.returns-in-Ok-clause-at
returns-in-Ok-clause-at g c = λ states told w b. c.go_on.ensures.at states told w (record {
  worker = b.worker;
  shown = b.shown;
  going = b.going;
  counted = λ h n low. still_told c.reserve.ensures.kept c.reserve.ensures.made c.reserve.ensures.rows (b.counted h n low);
  items = λ h. record { none = (b.items h).none; room = (b.items h).room };
  reserved = λ h r some. no_reserve c.args.self.now.reserve r c.in-None.is some;
})

pub returns-in-Err-clause-at : goal.returns-in-Err-clause-at
returns-in-Err-clause-at g c = λ states told w b.
    let e = c.refuse.ensures in
    standing_refused c.args.code.now (g.M.AddressMap.shape c.args.map.now) c.args.bound states told w _ (g.W.Row.filled c.refuse.new.row)
    OutOfMemory e.way (sym (ap own_mark c.in-None.is)) (λ r n some low. no_reserve c.args.self.now.reserve r c.in-None.is some)
    e.row e.read

pub returns-in-Some-clause-full : goal.returns-in-Some-clause-full
returns-in-Some-clause-full g c = λ none. no_reserve c.args.self.now.reserve c.in-Some.reserve none c.in-Some.is

pub returns-in-Ok-clause-full : goal.returns-in-Ok-clause-full
returns-in-Ok-clause-full g c = λ none stopped states told w n b low. inr (c.go_on.ensures.full stopped states told w n (record {
  worker = b.worker;
  shown = b.shown;
  going = b.going;
  counted = λ h k l. still_told c.reserve.ensures.kept c.reserve.ensures.made c.reserve.ensures.rows (b.counted h k l);
  items = λ h. record { none = (b.items h).none; room = (b.items h).room };
  reserved = λ h r some. no_reserve c.args.self.now.reserve r c.in-None.is some;
}) low)

pub returns-in-Err-clause-full : goal.returns-in-Err-clause-full
returns-in-Err-clause-full g c = λ none stopped states told w n b low. inl (let l = c.in-Err.ensures.full in omega (arith, l))
