use Rattle.std.proofs.Common.{◌≡◌, List, [], ◌∷◌, ◌++◌, length, true, append_assoc, Vec, sym, ap, ◌∙◌, subst, refl, suc, arith}
use Rattle.std.specs.Global.{Global}
use Rattle.std.proofs.lemmas.List.{length-append}
use Rattle.flat_machine.proofs.Lists.{map_joined}
use Rattle.exchange_counts.specs.declared.count.Count.{Count}
use Rattle.exchange_counts.specs.Columns.{columns_of}
use Rattle.bsp_machine.specs.declared.counted.CountedWorker.{CountedWorker}
use Rattle.bsp_machine.specs.Workers.{AreKept}
use Rattle.bsp_machine.specs.Ended.{counts_of}
use Rattle.bsp_machine.proofs.TallyLemmas.{one_more_kept}
use Rattle.bsp_machine.proofs.columns.take_columns.Goals as goal

pub returns-in-None-rows_kept-clause-all : goal.returns-in-None-rows_kept-clause-all
returns-in-None-rows_kept-clause-all c = λ all.
    let left = c.loop-worker.invariant.left all in
    let at : c.loop-worker.worker-iterator.rest.items ≡ c.in-Some.worker ∷ c.next.new.self.rest.items = c.in-Some.ensures.steps.0 in
    c.in-None-rows_kept.ensures.kept (subst (AreKept true) at left 0 c.in-Some.worker refl)

pub loop-worker-preserved : goal.loop-worker-preserved
loop-worker-preserved c =
    let i = c.loop-worker.invariant in
    let xs = c.loop-worker.columns.items in
    let rest = c.next.new.self.rest.items in
    let at : c.loop-worker.worker-iterator.rest.items ≡ c.in-Some.worker ∷ rest = c.in-Some.ensures.steps.0 in
    let rows = c.in-Some-rows_kept.rows in
    let is = c.in-Some-rows_kept.ensures.rows in
    record {
      taken =
          ap (λ (cs : List (Vec Count Global)). columns_of cs ++ counts_of rest) c.push_reserved.ensures.items
          ∙ ap (λ (cs : List (List Count)). cs ++ counts_of rest) (map_joined (λ (v : Vec Count Global). v.items) xs (rows ∷ []))
          ∙ append_assoc (columns_of xs) (rows.items ∷ []) (counts_of rest)
          ∙ ap (λ (column : List Count). columns_of xs ++ column ∷ counts_of rest) is.1
          ∙ ap (λ (ws : List CountedWorker). columns_of xs ++ counts_of ws) (sym at) ∙ i.taken;
      room =
          (let room = i.room in
          let fewer = ap length at in
          let more = ap length c.push_reserved.ensures.items ∙ length-append xs (rows ∷ []) in
          let same = c.push_reserved.ensures.capacity in
          omega (arith, room, fewer, more, same));
      kept = λ all. i.kept (subst (AreKept true) (sym at) (one_more_kept true c.in-Some.worker rest is.0 all));
      left = λ all w x e. subst (AreKept true) at (i.left all) (suc w) x e;
    }
