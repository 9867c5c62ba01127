use Rattle.std.proofs.Common.{◌≡◌, ◌<◌, ◌≤◌, suc, length, vec_capacity, true, Some, sym, ap, ◌∙◌, subst, arith}
use Rattle.pram_model.specs.Layout.{total_size}
use Rattle.write_rules.specs.Verdict.{verdict_of}
use Rattle.superstep_machine.specs.Run.{verdict_by}
use Rattle.worker_exchange.specs.Reached.{most_instructions}
use Rattle.worker_exchange.specs.Shown.{way_is, is_stopped}
use Rattle.exchange_counts.specs.Columns.{AreColumns}
use Rattle.bsp_machine.specs.declared.counted.CountedWorker.{CountedWorker}
use Rattle.bsp_machine.specs.Ended.{memory_of, verdict_in}
use Rattle.bsp_machine.specs.Reserves.{refusal_by}
use Rattle.bsp_machine.proofs.MarkLemmas.{refusal_at}
use Rattle.bsp_machine.proofs.ListLemmas.{one_there}
use Rattle.std.proofs.lemmas.Option.{slice_get-get_or}
use Rattle.worker_histories.proofs.Marking.{there}
use Rattle.bsp_machine.proofs.SwapLemmas as swap
use Rattle.bsp_machine.proofs.OutcomeLemmas.{told_alive, none_told, wide, columns_long, outcome_ends, exchanges_found}
use Rattle.bsp_machine.proofs.collecting.collect.Goals as goal

pub outcome-requires-clause-wide : goal.outcome-requires-clause-wide
outcome-requires-clause-wide g c = λ y at alive.
    let m = g.M.AddressMap.shape c.args.map.now in
    let all = c.args.workers.items in
    let x = there all 0 (let some = c.requires.runnable.map.lawful.one in let many = c.requires.workers in omega (arith, some, many)) in
    let left = c.as_slice.ensures.value ∙ c.take_items.ensures.left x.0 x.1 in
    let is = swap.first_is all c.as_slice.result.now x.0 c.args.room.items x.1 left y at in
    let r = c.requires.run in
    swap.wide_is all c.as_slice.result.now x.0 c.args.room.items x.1 left m
    (wide c.args.code.now m c.requires.runnable.map r.bound r.running.input all c.requires.workers r.running.running x.0 x.1
    (ap (λ (z : CountedWorker). is_stopped z.local.way) (sym is) ∙ alive))

pub outcome-requires-clause-items : goal.outcome-requires-clause-items
outcome-requires-clause-items g c = λ y at alive.
    let all = c.args.workers.items in
    let x = there all 0 (let some = c.requires.runnable.map.lawful.one in let many = c.requires.workers in omega (arith, some, many)) in
    let left = c.as_slice.ensures.value ∙ c.take_items.ensures.left x.0 x.1 in
    let is = swap.first_is all c.as_slice.result.now x.0 c.args.room.items x.1 left y at in
    let same = c.take_items.ensures.items x.0 x.1 in
    let has = (c.requires.run.running.running.behind 0 x.0 x.1).items (ap (λ (z : CountedWorker). is_stopped z.local.way) (sym is) ∙
    alive) in (
      ap (λ (v : _). v.items) same ∙ has.none,
      subst (λ (z : CountedWorker). length z.local.steps.uniform.output.items ≤ vec_capacity c.take_items.new.items) (sym is)
          (subst (λ (v : _). length x.0.local.steps.uniform.output.items ≤ vec_capacity v) (sym same) has.room),
    )

pub returns-in_default-clause-stopped : goal.returns-in_default-clause-stopped
returns-in_default-clause-stopped g c = λ x here.
    let code = c.args.code.now in
    let m = g.M.AddressMap.shape c.args.map.now in
    let all = c.args.workers.items in
    let left = c.as_slice.ensures.value ∙ c.take_items.ensures.left x here in
    let at = swap.there all c.as_slice.result.now x c.args.room.items here left in
    none_told x.local.way x.local.steps.uniform.output.items (memory_of code m c.as_slice.result.now) c.outcome.result
    (c.requires.over x here)
    (c.outcome.ensures (swap.without x c.args.room.items) at) c.in_default.not-Some

pub returns-in_default-clause-refused : goal.returns-in_default-clause-refused
returns-in_default-clause-refused g c = λ x here.
    let all = c.args.workers.items in
    let some = c.requires.runnable.map.lawful.one in
    let many = c.requires.workers in
    let first = slice_get-get_or all 0 c.index.result.now (omega (arith, some, many)) ∙ ap (λ y. Some y) (sym c.index.ensures) in
    c.refusal_by-refusal.ensures ∙ ap (λ (y : CountedWorker). refusal_by y.local.way) (one_there all 0 c.index.result.now x first here)

pub returns-in_default-clause-given : goal.returns-in_default-clause-given
returns-in_default-clause-given g c = λ reserve given.
    let all = c.args.workers.items in
    let x = there all 0 (let some = c.requires.runnable.map.lawful.one in let many = c.requires.workers in omega (arith, some, many)) in
    returns-in_default-clause-refused g c x.0 x.1
    ∙ refusal_at x.0.local.way reserve (given 0 x.0 x.1).stopped (returns-in_default-clause-stopped g c x.0 x.1)

pub counts_in-requires-clause-columns : goal.counts_in-requires-clause-columns
counts_in-requires-clause-columns g c = λ kept.
    let code = c.args.code.now in
    let m = g.M.AddressMap.shape c.args.map.now in
    let all = c.args.workers.items in
    let some = c.requires.runnable.map.lawful.one in
    let many = c.requires.workers in
    let x = there all 0 (omega (arith, some, many)) in
    let gone = c.take_items.ensures.left x.0 x.1 in
    let left = c.as_slice.ensures.value ∙ gone in
    let at = swap.there all c.as_slice.result.now x.0 c.args.room.items x.1 left in
    let told = ap verdict_in (sym c.in-Some.is) ∙ c.outcome.ensures (swap.without x.0 c.args.room.items) at in
    let alive = told_alive x.0.local.way x.0.local.steps.uniform.output.items (memory_of code m c.as_slice.result.now)
    (verdict_of c.in-Some.found) told in
    let r = c.requires.run in
    let others = c.take_items.new.workers.items in
    subst AreColumns (sym (swap.counts_is all others x.0 c.args.room.items x.1 gone))
    (columns_long code m c.requires.runnable.map r.bound r.running.input all many r.running.running x.0 x.1 alive
    (swap.kept_was all others x.0 c.args.room.items x.1 gone true kept))

pub returns-clause-kept : goal.returns-clause-kept
returns-clause-kept g c = λ kept.
    let all = c.args.workers.items in
    let x = there all 0 (let some = c.requires.runnable.map.lawful.one in let many = c.requires.workers in omega (arith, some, many)) in
    c.counts_in.ensures.all
    (swap.kept_is all c.take_items.new.workers.items x.0 c.args.room.items x.1 (c.take_items.ensures.left x.0 x.1) true kept)

pub returns-clause-unstopped : goal.returns-clause-unstopped
returns-clause-unstopped g c = λ x here.
    let code = c.args.code.now in
    let m = g.M.AddressMap.shape c.args.map.now in
    let all = c.args.workers.items in
    let left = c.as_slice.ensures.value ∙ c.take_items.ensures.left x here in
    let at = swap.there all c.as_slice.result.now x c.args.room.items here left in
    told_alive x.local.way x.local.steps.uniform.output.items (memory_of code m c.as_slice.result.now) (verdict_of c.in-Some.found)
    (ap verdict_in (sym c.in-Some.is) ∙ c.outcome.ensures (swap.without x c.args.room.items) at)

pub returns-clause-outcome : goal.returns-clause-outcome
returns-clause-outcome g c = λ bound input run.
    let code = c.args.code.now in
    let m = g.M.AddressMap.shape c.args.map.now in
    let all = c.args.workers.items in
    let some = c.requires.runnable.map.lawful.one in
    let many = c.requires.workers in
    let room = c.requires.runnable.map.room in
    let found = c.in-Some.found in
    let x = there all 0 (omega (arith, some, many)) in
    let left = c.as_slice.ensures.value ∙ c.take_items.ensures.left x.0 x.1 in
    let at = swap.there all c.as_slice.result.now x.0 c.args.room.items x.1 left in
    let told : Some (verdict_of found) ≡ verdict_by (way_is x.0.local.way) x.0.local.steps.uniform.output.items (memory_of code m all) =
    ap verdict_in (sym c.in-Some.is) ∙ c.outcome.ensures (swap.without x.0 c.args.room.items) at
    ∙ ap (verdict_by (way_is x.0.local.way) x.0.local.steps.uniform.output.items)
    (swap.memory_is all c.as_slice.result.now x.0 c.args.room.items x.1 left code m) in
    let alive = told_alive x.0.local.way x.0.local.steps.uniform.output.items (memory_of code m all) (verdict_of found) told in
    record {
      enough = suc (most_instructions code bound);
      exchanges = suc run.exchanges;
      ends = outcome_ends code m c.requires.runnable.map bound input all many run x.0 x.1 alive (c.requires.over x.0 x.1)
          (verdict_of found) told (omega (arith, room));
    }

pub returns-clause-counts : goal.returns-clause-counts
returns-clause-counts g c = λ bound input run.
    let code = c.args.code.now in
    let m = g.M.AddressMap.shape c.args.map.now in
    let all = c.args.workers.items in
    let some = c.requires.runnable.map.lawful.one in
    let many = c.requires.workers in
    let room = c.requires.runnable.map.room in
    let found = c.in-Some.found in
    let x = there all 0 (omega (arith, some, many)) in
    let gone = c.take_items.ensures.left x.0 x.1 in
    let left = c.as_slice.ensures.value ∙ gone in
    let at = swap.there all c.as_slice.result.now x.0 c.args.room.items x.1 left in
    let told : Some (verdict_of found) ≡ verdict_by (way_is x.0.local.way) x.0.local.steps.uniform.output.items (memory_of code m all) =
    ap verdict_in (sym c.in-Some.is) ∙ c.outcome.ensures (swap.without x.0 c.args.room.items) at
    ∙ ap (verdict_by (way_is x.0.local.way) x.0.local.steps.uniform.output.items)
    (swap.memory_is all c.as_slice.result.now x.0 c.args.room.items x.1 left code m) in
    let alive = told_alive x.0.local.way x.0.local.steps.uniform.output.items (memory_of code m all) (verdict_of found) told in
    let below : total_size code.layout < suc m.count = omega (arith, room) in
    let others = c.take_items.new.workers.items in
    exchanges_found code m c.requires.runnable.map bound input all many run x.0 x.1 alive (c.requires.over x.0 x.1) (verdict_of found)
    told below
    others (swap.kept_was all others x.0 c.args.room.items x.1 gone true) (swap.counts_is all others x.0 c.args.room.items x.1 gone)
    c.counts_in.result c.counts_in.ensures.told
