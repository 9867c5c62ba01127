use Rattle.std.proofs.Common.{◌≡◌, ◌≤◌, length, true, false, sym, ap, subst, ◌∙◌, arith}
use Rattle.std.specs.Prelude.{nat_lt, ◌||◌}
use Rattle.std.proofs.lemmas.Bool.Decides.{nat_tests}
use Rattle.superstep_machine.specs.declared.mark.HeaderMark.TheVariants.{OutOfReserve}
use Rattle.superstep_machine.specs.Run.{setting, ready, message_of}
use Rattle.worker_exchange.specs.Rows.{IsRow, written, message_at}
use Rattle.superstep_machine.specs.Purposes.{purpose_is}
use Rattle.worker_exchange.specs.Shown.{marked, is_stopped, IsShown, IsAtExchange}
use Rattle.worker_exchange.specs.MessagesWritten.{IsWrittenFor}
use Rattle.run_options.specs.declared.reserve.Reserve.{Reserve}
use Rattle.exchange_counts.specs.Tallies.{made_of}
use Rattle.bsp_machine.specs.Reserves.{is_past, own_mark}
use Rattle.bsp_machine.proofs.MarkLemmas.{going_on, never}
use Rattle.std.proofs.lemmas.Bool.{or_parts}
use Rattle.bsp_machine.proofs.CountedLemmas.{standing_refused, one_reserve, past_is}
use Rattle.bsp_machine.proofs.counted.CountedWorker.go_on_reserved.Goals as goal

pub refuse-requires-clause-workers : goal.refuse-requires-clause-workers
refuse-requires-clause-workers g c =
    let r = c.requires.going in
    (c.until_exchange-purpose.ensures.row r.enough r.state r.is_enough r.shown).long

pub returns-then-is_past-clause-at : goal.returns-then-is_past-clause-at
returns-then-is_past-clause-at g c = λ states told w b.
    let code = c.args.code.now in
    let m = g.M.AddressMap.shape c.args.map.now in
    let x = c.args.self.now in
    let purpose = c.until_exchange-purpose.ensures in
    let alive = going_on x.local.way c.requires.going.going in
    let had = b.reserved alive c.args.reserve c.requires.reserve in
    let e = c.refuse.ensures in
    standing_refused code m c.args.bound states told w _ (g.W.Row.filled c.refuse.new.row) OutOfReserve e.way
    (sym (ap own_mark c.requires.reserve))
    (λ r n some low. subst (λ (q : Reserve). is_past q
    (length (ready (setting code m c.args.bound n) w (states n)).state.worker.uniform.output) (length (told n)) ≡ true)
    (one_reserve x.reserve c.args.reserve r c.requires.reserve some)
    (past_is code m c.args.bound states told w x c.until_exchange-purpose.new.self c.args.reserve b alive had.0 had.2 purpose.shown
    purpose.past n low
    ∙ sym c.is_past.ensures ∙ c.if-is_past.true))
    e.row e.read

pub returns-else-is_past-clause-at : goal.returns-else-is_past-clause-at
returns-else-is_past-clause-at g c = λ states told w b.
    let code = c.args.code.now in
    let m = g.M.AddressMap.shape c.args.map.now in
    let x = c.args.self.now in
    let old = x.local in
    let new = c.until_exchange-purpose.new.self in
    let row = g.W.Row.filled c.until_exchange-purpose.new.row in
    let e = c.until_exchange-purpose.ensures in
    let alive = going_on old.way c.requires.going.going in
    let same = b.worker alive in
    let had = b.reserved alive c.args.reserve c.requires.reserve in
    let none = sym c.is_past.ensures ∙ c.if-is_past.false in
    let past = is_past c.args.reserve (length new.steps.uniform.output.items) (made_of x.counts) in
    let on = or_parts (is_stopped new.way) past (or_parts (is_stopped new.way || past) _ none).0 in
    let within = or_parts (nat_lt c.args.reserve.items (length new.steps.uniform.output.items)) _ on.1 in
    let few : length new.steps.uniform.output.items ≤ c.args.reserve.items = (let l = within.0 in grind (arith, nat_tests)) in
    record {
      worker = λ h. e.worker h ∙ same;
      shown = λ h n low.
          let t = setting code m c.args.bound n in
          subst (λ v. IsAtExchange t v new (states n)) same
          (e.shown h n (states n) low (subst (λ v. IsShown t v old (states n)) (sym same) (b.shown alive n low)));
      filled = λ n low.
          let t = setting code m c.args.bound n in
          let s = states n in
          subst (λ v. IsRow m.parts (λ j. written code.rule (message_of t v (marked new.way s) j)) row) same
          (e.row n s low (subst (λ v. IsShown t v old s) (sym same) (b.shown alive n low)));
      read = λ n j low inside.
          let t = setting code m c.args.bound n in
          let s = states n in
          subst (λ v. IsWrittenFor code.rule m j (purpose_is new.purpose) (message_of t v (marked new.way s) j) (message_at row j)) same
          (e.read n s j low inside (subst (λ v. IsShown t v old s) (sym same) (b.shown alive n low)));
      refused = λ mark h. absurd (never new.way mark h on.0);
      past = λ r n some low. on.0 ∙ sym (subst (λ (q : Reserve). is_past q
          (length (ready (setting code m c.args.bound n) w (states n)).state.worker.uniform.output) (length (told n)) ≡ false)
          (one_reserve x.reserve c.args.reserve r c.requires.reserve some)
          (past_is code m c.args.bound states told w x new c.args.reserve b alive had.0 had.2 e.shown e.past n low ∙ none));
      sent = λ h. e.sent;
      counted = λ h n low. b.counted alive n low;
      items = λ h. record { none = (b.items alive).none; room = (let room = had.1 in omega (arith, few, room)) };
      reserved = λ h r some. (let q = b.reserved alive r some in ((e.reserve h).items r.items q.0, q.1, q.2));
    }
