use Rattle.std.proofs.Common.{sym, ap, subst, ◌∙◌, arith}
use Rattle.superstep_machine.specs.declared.mark.HeaderMark.TheVariants.{OutOfMemory}
use Rattle.superstep_machine.specs.Run.{setting, message_of}
use Rattle.worker_exchange.specs.Rows.{IsRow, written, message_at}
use Rattle.superstep_machine.specs.Purposes.{purpose_is}
use Rattle.worker_exchange.specs.Shown.{marked, IsShown, IsAtExchange}
use Rattle.worker_exchange.specs.MessagesWritten.{IsWrittenFor}
use Rattle.bsp_machine.proofs.MarkLemmas.{going_on}
use Rattle.bsp_machine.specs.Reserves.{own_mark}
use Rattle.bsp_machine.proofs.CountedLemmas.{standing_refused, no_reserve, stopped_short, short_of_room}
use Rattle.bsp_machine.proofs.counted.CountedWorker.go_on.Goals as goal

pub refuse-requires-clause-workers : goal.refuse-requires-clause-workers
refuse-requires-clause-workers g c =
    let r = c.requires.going in
    (c.until_exchange-purpose.ensures.row r.enough r.state r.is_enough r.shown).long

pub returns-in-Ok-clause-at : goal.returns-in-Ok-clause-at
returns-in-Ok-clause-at g c = λ states told w b.
    let code = c.args.code.now in
    let m = g.M.AddressMap.shape c.args.map.now in
    let old = c.args.self.now.local in
    let new = c.until_exchange-purpose.new.self in
    let row = g.W.Row.filled c.until_exchange-purpose.new.row in
    let e = c.until_exchange-purpose.ensures in
    let alive = going_on old.way c.requires.going.going in
    let same = b.worker alive in
    record {
      worker = λ h. e.worker h ∙ same;
      shown = λ h n low.
          let t = setting code m c.args.bound n in
          subst (λ v. IsAtExchange t v new (states n)) same
          (e.shown h n (states n) low (subst (λ v. IsShown t v old (states n)) (sym same) (b.shown alive n low)));
      filled = λ n low.
          let t = setting code m c.args.bound n in
          let s = states n in
          subst (λ v. IsRow m.parts (λ j. written code.rule (message_of t v (marked new.way s) j)) row) same
          (e.row n s low (subst (λ v. IsShown t v old s) (sym same) (b.shown alive n low)));
      read = λ n j low within.
          let t = setting code m c.args.bound n in
          let s = states n in
          subst (λ v. IsWrittenFor code.rule m j (purpose_is new.purpose) (message_of t v (marked new.way s) j) (message_at row j)) same
          (e.read n s j low within (subst (λ v. IsShown t v old s) (sym same) (b.shown alive n low)));
      refused = λ mark h. e.refused mark h ∙ sym (ap own_mark c.requires.reserve);
      past = λ r n some low. no_reserve c.args.self.now.reserve r c.requires.reserve some;
      sent = λ h. e.sent;
      counted = λ h n low. b.counted alive n low;
      items = λ h. record {
        none = c.keep_room.ensures.none ∙ (b.items alive).none;
        room =
            (let most = c.len-most.ensures in
            let long = new.steps.uniform.output.ok.0 in
            let room = c.in-Ok.ensures.room in
            omega (arith, most, long, room));
      };
      reserved = λ h r some. no_reserve c.args.self.now.reserve r c.requires.reserve some;
    }

pub returns-in-Err-clause-at : goal.returns-in-Err-clause-at
returns-in-Err-clause-at g c = λ states told w b.
    let e = c.refuse.ensures in
    standing_refused c.args.code.now (g.M.AddressMap.shape c.args.map.now) c.args.bound states told w _ (g.W.Row.filled c.refuse.new.row)
    OutOfMemory e.way (sym (ap own_mark c.requires.reserve)) (λ r n some low. no_reserve c.args.self.now.reserve r c.requires.reserve some)
    e.row e.read

pub returns-in-Ok-clause-full : goal.returns-in-Ok-clause-full
returns-in-Ok-clause-full g c = λ stopped states told w n b low.
    let e = c.until_exchange-purpose.ensures in
    stopped_short c.args.code.now (g.M.AddressMap.shape c.args.map.now) c.args.bound states told w c.args.self.now
    c.until_exchange-purpose.new.self
    b (going_on c.args.self.now.local.way c.requires.going.going) e.shown e.past n low stopped

pub returns-in-Err-clause-full : goal.returns-in-Err-clause-full
returns-in-Err-clause-full g c = λ stopped states told w n b low.
    let e = c.until_exchange-purpose.ensures in
    let y = c.until_exchange-purpose.new.self in
    short_of_room c.args.code.now (g.M.AddressMap.shape c.args.map.now) c.args.bound states told w c.args.self.now y
    b (going_on c.args.self.now.local.way c.requires.going.going) e.shown e.past n low
    (let most = c.len-most.ensures in
    let long = y.steps.uniform.output.ok.0 in
    let room = c.in-Err.ensures.refused in
    omega (arith, most, long, room))
