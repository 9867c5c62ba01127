use Rattle.std.proofs.Common.{◌≡◌, ◌<◌, [], length, slice_set, refl, ◌∙◌, arith}
use Rattle.worker_exchange.specs.Rows.{WrittenMessage}
use Rattle.worker_exchange.proofs.RowLemmas.{is_filled, one_filled, still_long, words_filled}
use Rattle.worker_exchange.proofs.fill.fill_headers.Goals as goal

pub workers-preserved : goal.workers-preserved
workers-preserved g c =
    let row = g.W.Row.filled c.workers.row in
    let after = g.W.Row.filled c.fill-filled.new.self in
    let j = c.workers.j in
    let x : WrittenMessage = record { header = c.to_words-words.result; words = [] } in
    let known = c.workers.invariant in
    let l : j < length row = (let long = known.long in omega (arith, long)) in
    let e : after ≡ slice_set row j x =
    is_filled c.fill-filled.result (after ≡ slice_set row j x) (c.fill-filled.ensures.fits (omega arith)) c.fill-filled.ensures.filled in
    record {
      filled = one_filled (λ i. x) row after j x l e refl known.filled;
      words = (let more = words_filled row after j x l e in let none = known.words in omega (arith, more, none));
      long = still_long row after j c.args.workers x e known.long;
      room = c.fill-filled.ensures.room ∙ known.room;
      kept = g.met.W.Row.kept_on c.args.row.now c.workers.row c.fill-filled.new.self known.kept c.fill-filled.ensures.kept;
    }
