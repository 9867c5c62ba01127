use Rattle.std.proofs.Common.{◌≡◌, ◌<◌, ◌≤◌, ◌+◌, Some, length, length-set, sym, ap, ◌∙◌, arith}
use Rattle.std.specs.Prelude.{slice_get}
use Rattle.exchange_counts.specs.Tallies.{is_kept}
use Rattle.bsp_machine.specs.Opening.{IsFresh}
use Rattle.bsp_machine.proofs.ListLemmas.{get_other, set_each}
use Rattle.std.proofs.lemmas.Option.{slice_get-get_or, slice_get_within}
use Rattle.workers.proofs.reserving.reserve_each.Goals as goal

pub workers-preserved : goal.workers-preserved
workers-preserved c =
    let xs = c.workers.workers.items in
    let w = c.workers.w in
    let i = c.workers.invariant in
    let y = c.index_mut.result.now in
    let x' = c.reserve.new.self in
    let e = c.in_ok-reserve.ensures in
    let test = c.workers-test.true in
    let lt : w < length xs = omega (arith, test) in
    let here : slice_get xs w ≡ Some y = slice_get-get_or xs w y lt ∙ ap (λ z. Some z) (sym c.index_mut.ensures.value) in
    record {
      long = length-set xs w x' ∙ i.long;
      later = λ v low. get_other xs w v x' (λ (same : v ≡ w). omega (arith, same, low)) ∙ i.later v (omega (arith, low));
      given = λ v x below at.
          set_each xs w x' (λ v x. v < w + 1 → x.reserve ≡ Some c.args.reserve) lt (λ below. e.given)
          (λ v x n at below. i.given v x (omega (arith, n, below)) at) v x at below;
      fresh = λ code m input all v x below at.
          set_each xs w x' (λ v x. v < w + 1 → IsFresh code m input v x) lt
          (λ below. e.fresh code m input w (all w y (sym (i.later w (omega arith)) ∙ here)))
          (λ v x n at below. i.fresh code m input all v x (omega (arith, n, below)) at) v x at below;
      kept = λ kept all v x below at.
          set_each xs w x' (λ v x. v < w + 1 → is_kept x.counts ≡ kept) lt
          (λ below. e.kept ∙ all w y (sym (i.later w (omega arith)) ∙ here))
          (λ v x n at below. i.kept kept all v x (omega (arith, n, below)) at) v x at below;
    }

pub returns-clause-given : goal.returns-clause-given
returns-clause-given c = λ w x at.
    let i = c.workers.invariant in
    let l = slice_get_within c.workers.workers.items w x at in
    let stop = c.workers-test.false in
    i.given w x (omega (arith, l, stop)) at

pub returns-clause-fresh : goal.returns-clause-fresh
returns-clause-fresh c = λ code m input all w x at.
    let i = c.workers.invariant in
    let l = slice_get_within c.workers.workers.items w x at in
    let stop = c.workers-test.false in
    i.fresh code m input all w x (omega (arith, l, stop)) at

pub returns-clause-kept : goal.returns-clause-kept
returns-clause-kept c = λ kept all w x at.
    let i = c.workers.invariant in
    let l = slice_get_within c.workers.workers.items w x at in
    let stop = c.workers-test.false in
    i.kept kept all w x (omega (arith, l, stop)) at
