use Rattle.std.proofs.Common.{◌≡◌, ◌<◌, length, slice_set, ap, sym, ◌∙◌, arith}
use Rattle.worker_exchange.specs.Rows.{WrittenMessage}
use Rattle.combining.specs.AllModules.{column}
use Rattle.worker_exchange.specs.Sends.{words_of, send_message}
use Rattle.worker_exchange.proofs.SendLemmas.{words_at}
use Rattle.worker_exchange.proofs.RowLemmas.{is_filled, one_filled, still_long, words_filled}
use Rattle.worker_exchange.proofs.fill.fill_sends.Goals as goal

pub overflow_add-sent : goal.overflow_add-sent
overflow_add-sent g c =
    let j = c.workers.j in
    let l : j < length c.args.columns.now = omega arith in
    let short = c.requires.short j in
    let is = ap length (words_at c.args.columns.now j c.index-columns-j.result l c.index-columns-j.is) in
    let slice = ap length c.as_slice-words.ensures.value in
    let few = c.requires.few in
    let fits = c.workers.invariant.fits in
    omega (arith, l, short, is, slice, few, fits)

pub workers-preserved : goal.workers-preserved
workers-preserved g c =
    let row = g.W.Row.filled c.workers.row in
    let after = g.W.Row.filled c.fill-filled.new.self in
    let j = c.workers.j in
    let x : WrittenMessage = record { header = c.header_with.result; words = c.as_slice-words.result.now } in
    let known = c.workers.invariant in
    let l : j < length row = (let long = known.long in omega (arith, long)) in
    let here : column (words_of c.args.columns.now) j ≡ c.index-columns-j.result.items =
    words_at c.args.columns.now j c.index-columns-j.result (omega arith) c.index-columns-j.is in
    let is : x.words ≡ column (words_of c.args.columns.now) j = c.as_slice-words.ensures.value ∙ sym here in
    let e : after ≡ slice_set row j x =
    is_filled c.fill-filled.result (after ≡ slice_set row j x)
    (c.fill-filled.ensures.fits
    (let room = c.requires.room j in
    let k = ap length is in
    let same = known.room in omega (arith, room, k, same)))
    c.fill-filled.ensures.filled in
    record {
      filled = one_filled (send_message c.args.key (words_of c.args.columns.now) c.args.counts.now) row after j x l e
          (λ i. record { header = c.header_with.ensures i; words = is i }) known.filled;
      words = (let more = words_filled row after j x l e in let so_far = known.words in omega (arith, more, so_far));
      fits = (let short = c.requires.short j in let n = ap length is in let k = known.fits in omega (arith, short, n, k));
      long = still_long row after j (length c.args.columns.now) x e known.long;
      room = c.fill-filled.ensures.room ∙ known.room;
      kept = g.met.W.Row.kept_on c.args.row.now c.workers.row c.fill-filled.new.self known.kept c.fill-filled.ensures.kept;
    }
