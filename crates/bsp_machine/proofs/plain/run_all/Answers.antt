use Rattle.std.proofs.Common.{◌≡◌, Some, sym, ap, ◌∙◌, subst, arith}
use Rattle.std.specs.Prelude.{slice_get}
use Rattle.worker_exchange.specs.Equipped.{most_words}
use Rattle.bsp_machine.specs.Workers.{AreSheets}
use Rattle.std.proofs.lemmas.Option.{slice_get-get_or}
use Rattle.bsp_machine.proofs.OpeningLemmas.{fresh_run}
use Rattle.bsp_machine.proofs.plain.run_all.Goals as goal

pub under-requires : goal.under-requires
under-requires g c =
    let code = c.args.code.now in
    let m = g.M.AddressMap.shape c.args.map.now in
    let workers = c.args.workers.items in
    let o = c.requires.opened in
    let x = c.index.result.now in
    let some = c.requires.runnable.map.lawful.one in
    let many = c.requires.workers in
    let here : slice_get workers 0 ≡ Some x = slice_get-get_or workers 0 x (omega (arith, some, many)) ∙ ap (λ y. Some y)
    (sym c.index.ensures) in
    let reply = ((o.fresh 0 x here).going c.args.bound).equipped.buffers.reply in
    let most : c.capacity-most.result ≡ most_words code m = c.capacity-most.ensures ∙ reply in (
      c.rule.ensures.value,
      record {
        runnable = c.requires.runnable;
        opened = record { input = o.input; running = fresh_run code m o.input c.args.bound workers o.fresh };
        long = many;
        rows = subst (λ n. AreSheets n (most_words code m) c.in_ok-rows.rows.items) c.modules-count.ensures
            (subst (λ k. AreSheets c.modules-count.result k c.in_ok-rows.rows.items) most c.in_ok-rows.ensures);
      },
    )
