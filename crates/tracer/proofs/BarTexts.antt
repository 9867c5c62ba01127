-- Bars, one behind the other, and how tall each is.
use Rattle.std.proofs.Common.{◌≡◌, ℕ, suc, ◌+◌, ◌-◌, ◌<◌, ◌≤◌, List, length, drop, get_or, refl, ap, arith, sym, ◌∙◌}
use Rattle.std.proofs.lemmas.List.{drop_more}
use Rattle.superstep_machine.specs.Trace.{Exchange, greatest, relation_of}
use Rattle.exchange_counts.proofs.Greatest.{at_most_greatest, relation_is}
use Rattle.svg_texts.specs.Shapes.{Over}
use Rattle.tracer.specs.Picture.{received_bar, received_bars, sent_bar, sent_bars, worker_number, worker_numbers}

pub sent_at : (most x w : ℕ) (ns : List ℕ) (words : ℕ) → w < length ns → words ≡ get_or ns w 0 →
    sent_bars most x w (drop w ns) ≡ Over (sent_bar most x w words) (sent_bars most x (w + 1) (drop (w + 1) ns))
sent_at most x w ns words below is =
    ap (sent_bars most x w) (drop_more ns w 0 below)
    ∙ ap (λ n. Over (sent_bar most x w n) (sent_bars most x (w + 1) (drop (w + 1) ns))) (sym is)

pub received_at : (most x w : ℕ) (ns : List ℕ) (words : ℕ) → w < length ns → words ≡ get_or ns w 0 →
    received_bars most x w (drop w ns) ≡ Over (received_bar most x w words) (received_bars most x (w + 1) (drop (w + 1) ns))
received_at most x w ns words below is =
    ap (received_bars most x w) (drop_more ns w 0 below)
    ∙ ap (λ n. Over (received_bar most x w n) (received_bars most x (w + 1) (drop (w + 1) ns))) (sym is)

-- no bar is for more words than the h of its exchange
pub sent_fits : (e : Exchange) (w words most : ℕ) → w < length e.sent → words ≡ get_or e.sent w 0 → relation_of e ≤ most → words ≤ most
sent_fits e w words most below is h =
    let least = at_most_greatest e.sent w below in
    let all = relation_is e (greatest e.sent) (greatest e.received) refl refl in
    omega (arith, least, all, is, h)

pub received_fits : (e : Exchange) (w words most : ℕ) → w < length e.received → words ≡ get_or e.received w 0 → relation_of e ≤ most →
    words ≤ most
received_fits e w words most below is h =
    let least = at_most_greatest e.received w below in
    let all = relation_is e (greatest e.sent) (greatest e.received) refl refl in
    omega (arith, least, all, is, h)

-- the number of worker w, and those behind it
pub number_at : (x w workers : ℕ) → w < workers →
    worker_numbers x w (workers - w) ≡ Over (worker_number x w) (worker_numbers x (w + 1) (workers - (w + 1)))
number_at x w workers below =
    let one : workers - w ≡ suc (workers - (w + 1)) = omega (arith, below) in
    ap (worker_numbers x w) one
