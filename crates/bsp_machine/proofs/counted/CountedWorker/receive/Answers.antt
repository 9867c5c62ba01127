use Rattle.std.proofs.Common.{◌≡◌, ◌<◌, suc, [], ◌∷◌, ◌++◌, length, false, sym, subst, ap, ◌∙◌, arith}
use Rattle.superstep_machine.specs.Run.{setting, ready, after}
use Rattle.worker_exchange.specs.Rows.{words_in}
use Rattle.worker_exchange.specs.Reached.{most_instructions}
use Rattle.superstep_machine.specs.Purposes.{purpose_is}
use Rattle.worker_exchange.specs.Shown.{is_stopped, IsShown, IsAtExchange}
use Rattle.worker_exchange.specs.Received.{is_marked, mark_heard, messages_to}
use Rattle.bsp_machine.specs.Workers.{IsTold, share_at, count_of}
use Rattle.bsp_machine.proofs.MarkLemmas.{going_on}
use Rattle.bsp_machine.proofs.TallyLemmas.{one_more_told}
use Rattle.std.proofs.lemmas.Bool.{or_parts}
use Rattle.bsp_machine.proofs.counted.CountedWorker.receive.Goals as goal

pub returns-clause-behind : goal.returns-clause-behind
returns-clause-behind g c = λ states told w row at.
    let code = c.args.code.now in
    let m = g.M.AddressMap.shape c.args.map.now in
    let x = c.args.self.now in
    let old = x.local in
    let new = c.receive-progress.new.local in
    let came = g.C.Column.came c.args.column.now in
    let e = c.receive-progress.ensures in
    let alive : is_stopped new.way ≡ false → is_stopped old.way ≡ false =
    (λ h. (or_parts (is_stopped old.way) (is_marked (mark_heard came)) (sym e.stopped ∙ h)).0) in
    record {
      worker = λ h. e.worker ∙ at.worker (alive h);
      shown = λ h n low.
          let t = setting code m c.args.bound n in
          let s = states n in
          let same = at.worker (alive h) in
          subst (λ v. IsShown t v new (after t v (ready t v s) (messages_to code.rule m v (purpose_is old.purpose) came))) same
          (e.shown h n s low (subst (λ v. IsAtExchange t v old s) (sym same) (at.shown (alive h) n low)));
      going = λ h.
          let on = going_on new.way h in
          let n = suc (most_instructions code c.args.bound) in
          let low : most_instructions code c.args.bound < n = omega arith in
          let t = setting code m c.args.bound n in
          e.going h n (states n) low
          (subst (λ v. IsAtExchange t v old (states n)) (sym (at.worker (alive on))) (at.shown (alive on) n low));
      counted = λ h n low.
          let on = (c.requires.ready.purpose (alive h)).going in
          let more = one_more_told (count_of old (words_in came)) c.count.ensures.kept (c.count.ensures.made on)
          (c.count.ensures.counted on)
          (at.counted (alive h) n low) in
          subst (λ words. IsTold c.count.new.counts (told n ++ record (share_at x row came) { sent = words } ∷ []))
          (at.sent (alive h)) more;
      items = λ h.
          let had = at.items (alive h) in
          record {
            none = had.none;
            room = (let room = had.room in let same = ap (λ (v : _). length v.items) e.output in omega (arith, room, same));
          };
      reserved = λ h r some. (let had = at.reserved (alive h) r some in let room = had.2 in let same = c.count.ensures.room in (
        e.reserve.items r.items had.0,
        had.1,
        omega (arith, room, same),
      ));
    }
