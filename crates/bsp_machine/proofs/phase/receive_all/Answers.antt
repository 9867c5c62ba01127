use Rattle.std.proofs.Common.{◌≡◌, ◌<◌, ℕ, suc, ◌+◌, List, ℤ, Some, length, length-set, get_or, false, sym, subst, ◌∙◌}
use Rattle.std.proofs.Common.{arith}
use Rattle.std.specs.Prelude.{slice_get}
use Rattle.superstep_machine.specs.Run.{is_over, setting}
use Rattle.bsp_verify.specs.Runs.{worker_after}
use Rattle.worker_exchange.specs.Shown.{way_is, is_stopped}
use Rattle.worker_exchange.specs.Equipped.{most_words, left, left_at}
use Rattle.worker_exchange.specs.Received.{is_marked, mark_heard}
use Rattle.exchange_counts.specs.Tallies.{is_kept}
use Rattle.bsp_machine.specs.declared.counted.CountedWorker.{CountedWorker}
use Rattle.bsp_machine.specs.Sheets.{messages_in, picked}
use Rattle.bsp_machine.specs.Workers.{shares, AreAt, IsBehind}
use Rattle.bsp_machine.proofs.ListLemmas.{get_other, set_each, one_there}
use Rattle.std.proofs.lemmas.Option.{slice_get-get_or, slice_get_within}
use Rattle.worker_histories.proofs.Marking.{there}
use Rattle.bsp_machine.proofs.SheetLemmas.{column_short}
use Rattle.bsp_machine.specs.Reserves.{IsGiven}
use Rattle.bsp_machine.proofs.MarkLemmas.{going_on, any_stopped, none_stopped, given_behind}
use Rattle.std.proofs.lemmas.Bool.{or_parts}
use Rattle.bsp_machine.proofs.ComingLemmas.{behind_more, coming, stopping, marked_by_own}
use Rattle.bsp_machine.proofs.phase.receive_all.Goals as goal

pub receive-requires-clause-room : goal.receive-requires-clause-room
receive-requires-clause-room g c =
    let m = g.M.AddressMap.shape c.args.map.now in
    column_short m.parts (most_words c.args.code.now m) c.workers.w c.args.rows.now c.requires.rows.each

pub workers-preserved : goal.workers-preserved
workers-preserved g c =
    let code = c.args.code.now in
    let m = g.M.AddressMap.shape c.args.map.now in
    let bound = c.args.bound in
    let olds = c.args.workers.now in
    let rows = c.args.rows.now in
    let xs = c.workers.workers in
    let w = c.workers.w in
    let i = c.workers.invariant in
    let y = get_or xs w c.index-workers-w.result in
    let x' = c.receive.new.self in
    let e = c.receive.ensures in
    let many = c.requires.workers in
    let now = i.long in
    let long = c.requires.rows.long in
    let test = c.workers-test.true in
    let lt : w < length xs = omega (arith, test) in
    let within : w < m.parts = omega (arith, lt, now) in
    let here : slice_get xs w ≡ Some y = slice_get-get_or xs w c.index-workers-w.result lt in
    let before : slice_get olds w ≡ Some y = sym (i.later w (omega arith)) ∙ here in
    let row = there rows w (omega (arith, within, long)) in
    let stops : (input : List ℤ) (k : ℕ) → AreAt code m bound input k olds rows → is_stopped x'.local.way ≡ any_stopped olds =
    (λ input k at. e.stopped ∙ stopping code m bound input k olds rows at many long w y before within) in
    record {
      long = length-set xs w x' ∙ now;
      later = λ v low. get_other xs w v x' (λ (same : v ≡ w). omega (arith, same, low)) ∙ i.later v (omega (arith, low));
      behind = λ input k at v x below there.
          set_each xs w x' (λ v x. v < w + 1 → IsBehind code m bound input (suc k) v x) lt
          (λ below.
          behind_more code m c.requires.runnable.map bound input k w within y x' (messages_in row.0) (picked w rows)
          (at w y row.0 before row.1)
          (λ alive. none_stopped olds w y before (sym (stops input k at) ∙ alive))
          (λ alive.
          coming code m c.requires.runnable.map bound input k olds rows at many long
          (λ j z f. none_stopped olds j z f (sym (stops input k at) ∙ alive)) w y before within)
          (e.behind (λ n. worker_after (setting code m bound n) input k w) (λ n. shares (setting code m bound n) input w k) w
          (messages_in row.0) (at w y row.0 before row.1)))
          (λ v x n there below. i.behind input k at v x (omega (arith, n, below)) there) v x there below;
      stopped = λ input k at v x below there.
          set_each xs w x' (λ v x. v < w + 1 → is_stopped x.local.way ≡ any_stopped olds) lt (λ below. stops input k at)
          (λ v x n there below. i.stopped input k at v x (omega (arith, n, below)) there) v x there below;
      left = λ v x z below was there.
          set_each xs w x' (λ v z. (x : CountedWorker) → v < w + 1 → slice_get olds v ≡ Some x → is_over (way_is z.local.way) ≡ false →
          (is_stopped x.local.way ≡ false) × (left code bound z.local < left_at code bound x.local)) lt
          (λ x below was on. subst (λ (q : CountedWorker). (is_stopped q.local.way ≡ false)
          × (left code bound x'.local < left_at code bound q.local)) (one_there olds w y x before was) (
            (or_parts (is_stopped y.local.way) (is_marked (mark_heard (picked w rows)))
                (sym e.stopped ∙ going_on x'.local.way on)).0,
            e.left on,
          ))
          (λ v z n there x below was on. i.left v x z (omega (arith, n, below)) was there on) v z there x below was;
      given = λ reserve input k at all v x below there.
          set_each xs w x' (λ v x. v < w + 1 → IsGiven reserve x) lt
          (λ below. given_behind reserve y x' (picked w rows) (all w y before) (at w y row.0 before row.1).refused
          (marked_by_own code m bound input k olds rows at many long reserve all w within) e.reserve e.stopped e.mark)
          (λ v x n there below. i.given reserve input k at all v x (omega (arith, n, below)) there) v x there below;
      kept = λ kept all v x below at.
          set_each xs w x' (λ v x. v < w + 1 → is_kept x.counts ≡ kept) lt (λ below. e.kept_rows ∙ all w y before)
          (λ v x n at below. i.kept kept all v x (omega (arith, n, below)) at) v x at below;
    }

pub returns-clause-given : goal.returns-clause-given
returns-clause-given g c = λ reserve input k at all w x there.
    let l = slice_get_within c.workers.workers w x there in
    let stop = c.workers-test.false in
    c.workers.invariant.given reserve input k at all w x (omega (arith, l, stop)) there

pub returns-clause-behind : goal.returns-clause-behind
returns-clause-behind g c = λ input k at w x there.
    let l = slice_get_within c.workers.workers w x there in
    let stop = c.workers-test.false in
    c.workers.invariant.behind input k at w x (omega (arith, l, stop)) there

pub returns-clause-together : goal.returns-clause-together
returns-clause-together g c = λ input k at w v x y here there.
    let xs = c.workers.workers in
    let l = slice_get_within xs w x here in
    let r = slice_get_within xs v y there in
    let stop = c.workers-test.false in
    c.workers.invariant.stopped input k at w x (omega (arith, l, stop)) here
    ∙ sym (c.workers.invariant.stopped input k at v y (omega (arith, r, stop)) there)

pub returns-clause-left : goal.returns-clause-left
returns-clause-left g c = λ w x y was there.
    let l = slice_get_within c.workers.workers w y there in
    let stop = c.workers-test.false in
    c.workers.invariant.left w x y (omega (arith, l, stop)) was there

pub returns-clause-kept : goal.returns-clause-kept
returns-clause-kept g c = λ kept all w x at.
    let l = slice_get_within c.workers.workers w x at in
    let stop = c.workers-test.false in
    c.workers.invariant.kept kept all w x (omega (arith, l, stop)) at
