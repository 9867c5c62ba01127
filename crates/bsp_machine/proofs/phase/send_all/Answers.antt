use Rattle.std.proofs.Common.{◌≡◌, refl, set, ◌<◌, ◌≤◌, ◌+◌, Some, length, length-set}
use Rattle.std.proofs.Common.{get_or, false, sym, subst, ◌∙◌, arith}
use Rattle.std.specs.Prelude.{slice_get}
use Rattle.superstep_machine.specs.Run.{setting}
use Rattle.bsp_verify.specs.Runs.{worker_after}
use Rattle.worker_exchange.specs.Shown.{is_stopped}
use Rattle.worker_exchange.specs.Equipped.{most_words, left, left_at}
use Rattle.exchange_counts.specs.Tallies.{is_kept}
use Rattle.bsp_machine.specs.declared.counted.CountedWorker.{CountedWorker}
use Rattle.bsp_machine.specs.declared.sheet.Sheet.{Sheet}
use Rattle.bsp_machine.specs.Sheets.{messages_in, IsSheet}
use Rattle.bsp_machine.specs.Workers.{shares, IsAt, IsReady}
use Rattle.bsp_machine.proofs.ListLemmas.{get_other, set_each, one_there}
use Rattle.std.proofs.lemmas.Option.{slice_get-get_or, slice_get_within}
use Rattle.bsp_machine.proofs.SheetLemmas.{sheet_long, sheet_room, still_sheet}
use Rattle.bsp_machine.proofs.phase.send_all.Goals as goal

pub until_exchange-requires-clause-going : goal.until_exchange-requires-clause-going
until_exchange-requires-clause-going g c =
    let xs = c.workers.workers in
    let w = c.workers.w in
    let i = c.workers.invariant in
    let here = slice_get-get_or xs w c.index-workers-w.result (omega arith) in
    c.requires.going w (get_or xs w c.index-workers-w.result) (sym (i.later w (omega arith)) ∙ here)

pub until_exchange-requires-clause-workers : goal.until_exchange-requires-clause-workers
until_exchange-requires-clause-workers g c =
    let m = g.M.AddressMap.shape c.args.map.now in
    let i = c.workers.invariant in
    let row = get_or c.workers.rows c.workers.w c.index-rows-w.result in
    let many = i.long in
    let long = i.rows.long in
    let test = c.workers-test.true in
    let here = slice_get-get_or c.workers.rows c.workers.w c.index-rows-w.result (omega (arith, many, long, test)) in
    sheet_long m.parts (most_words c.args.code.now m) row (i.rows.each c.workers.w row here)

pub until_exchange-requires-clause-room : goal.until_exchange-requires-clause-room
until_exchange-requires-clause-room g c =
    let m = g.M.AddressMap.shape c.args.map.now in
    let i = c.workers.invariant in
    let row = get_or c.workers.rows c.workers.w c.index-rows-w.result in
    let many = i.long in
    let long = i.rows.long in
    let test = c.workers-test.true in
    let here = slice_get-get_or c.workers.rows c.workers.w c.index-rows-w.result (omega (arith, many, long, test)) in
    let room = sheet_room m.parts (most_words c.args.code.now m) row (i.rows.each c.workers.w row here) c.requires.some in
    omega (arith, room)

pub workers-preserved : goal.workers-preserved
workers-preserved g c =
    let code = c.args.code.now in
    let m = g.M.AddressMap.shape c.args.map.now in
    let bound = c.args.bound in
    let olds = c.args.workers.now in
    let xs = c.workers.workers in
    let rows = c.workers.rows in
    let w = c.workers.w in
    let i = c.workers.invariant in
    let y = get_or xs w c.index-workers-w.result in
    let row = get_or rows w c.index-rows-w.result in
    let x' = c.until_exchange.new.self in
    let row' = c.until_exchange.new.row in
    let e = c.until_exchange.ensures in
    let many = i.long in
    let long = i.rows.long in
    let test = c.workers-test.true in
    let lt : w < length xs = omega (arith, test) in
    let lts : w < length rows = omega (arith, many, long, test) in
    let here : slice_get xs w ≡ Some y = slice_get-get_or xs w c.index-workers-w.result lt in
    let there : slice_get rows w ≡ Some row = slice_get-get_or rows w c.index-rows-w.result lts in
    let before : slice_get olds w ≡ Some y = sym (i.later w (omega arith)) ∙ here in
    record {
      long = length-set xs w x' ∙ many;
      rows = record {
        long = length-set rows w row' ∙ long;
        each = set_each rows w row' (λ k s. IsSheet m.parts (most_words code m) s) lts
            (still_sheet m.parts (most_words code m) row row' (i.rows.each w row there) e.kept) (λ k s n at. i.rows.each k s at);
      };
      later = λ v low. get_other xs w v x' (λ (same : v ≡ w). omega (arith, same, low)) ∙ i.later v (omega (arith, low));
      ready = λ v x below at.
          set_each xs w x' (λ v x. v < w + 1 → IsReady code m bound x) lt (λ below. e.ready)
          (λ v x n at below. i.ready v x (omega (arith, n, below)) at) v x at below;
      at = λ input k behind v x s below at on.
          set_each xs w x' (λ v x. (s : Sheet) → v < w + 1 → slice_get (set rows w row') v ≡ Some s →
          IsAt code m bound input k v x (messages_in s)) lt
          (λ s below on.
          set_each rows w row' (λ v s. v ≡ w → IsAt code m bound input k w x' (messages_in s)) lts
          (λ same. e.at (λ n. worker_after (setting code m bound n) input k w)
          (λ n. shares (setting code m bound n) input w k) w (behind w y before)) (λ v s n at same. absurd (n same)) w s on refl)
          (λ v x n at s below on. i.at input k behind v x s (omega (arith, n, below)) at (sym (get_other rows w v row' n) ∙ on))
          v x at s below on;
      fewer = λ v x z below was at.
          set_each xs w x' (λ v z. (x : CountedWorker) → v < w + 1 → slice_get olds v ≡ Some x → is_stopped z.local.way ≡ false →
          left_at code bound z.local ≤ left code bound x.local) lt
          (λ x below was alive. subst (λ (q : CountedWorker). left_at code bound x'.local ≤ left code bound q.local)
          (one_there olds w y x before was) (e.fewer alive))
          (λ v z n at x below was alive. i.fewer v x z (omega (arith, n, below)) was at alive) v z at x below was;
      reserve = λ reserve all v x below at.
          set_each xs w x' (λ v x. v < w + 1 → x.reserve ≡ reserve) lt (λ below. e.reserve ∙ all w y before)
          (λ v x n at below. i.reserve reserve all v x (omega (arith, n, below)) at) v x at below;
      kept = λ kept all v x below at.
          set_each xs w x' (λ v x. v < w + 1 → is_kept x.counts ≡ kept) lt (λ below. e.kept_rows ∙ all w y before)
          (λ v x n at below. i.kept kept all v x (omega (arith, n, below)) at) v x at below;
    }

pub returns-clause-reserve : goal.returns-clause-reserve
returns-clause-reserve g c = λ reserve all w x at.
    let i = c.workers.invariant in
    let l = slice_get_within c.workers.workers w x at in
    let stop = c.workers-test.false in
    i.reserve reserve all w x (omega (arith, l, stop)) at

pub returns-clause-ready : goal.returns-clause-ready
returns-clause-ready g c = λ w x at.
    let i = c.workers.invariant in
    let l = slice_get_within c.workers.workers w x at in
    let stop = c.workers-test.false in
    i.ready w x (omega (arith, l, stop)) at

pub returns-clause-at : goal.returns-clause-at
returns-clause-at g c = λ input k behind w x row at on.
    let i = c.workers.invariant in
    let l = slice_get_within c.workers.workers w x at in
    let stop = c.workers-test.false in
    i.at input k behind w x row (omega (arith, l, stop)) at on

pub returns-clause-fewer : goal.returns-clause-fewer
returns-clause-fewer g c = λ w x y was at.
    let i = c.workers.invariant in
    let l = slice_get_within c.workers.workers w y at in
    let stop = c.workers-test.false in
    i.fewer w x y (omega (arith, l, stop)) was at

pub returns-clause-kept : goal.returns-clause-kept
returns-clause-kept g c = λ kept all w x at.
    let l = slice_get_within c.workers.workers w x at in
    let stop = c.workers-test.false in
    c.workers.invariant.kept kept all w x (omega (arith, l, stop)) at
