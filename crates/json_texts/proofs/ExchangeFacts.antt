-- The exchanges, one by one, and that what is told of them can be read.
use Rattle.std.proofs.Common.{◌≡◌, ◌∙◌, ◌<◌, ◌+◌, ◌-◌, ◌∷◌, List, ℕ, ◌++◌, Option, None, Some, ap, arith, codes, drop, get_or, length, lit≤}
use Rattle.std.proofs.lemmas.List.{drop_more}
use Rattle.json_texts.specs.Small.{IsReadable}
use Rattle.json_texts.proofs.Small.{HasSmall, has_all, small_count, small_counts, small_object, small_word, smaller}
use Rattle.superstep_machine.specs.Trace.{Exchange, relation_of}
use Rattle.exchange_counts.specs.CountedExchanges.{exchange_at, no_exchange}
use Rattle.json_texts.specs.TraceFacts.{exchange_facts, exchange_fields, exchanges_from, line_fields, line_of, purpose_word}

-- the exchange at i, and those behind it
pub exchanges_at : (lines : List ℕ) (exchanges : List Exchange) (i : ℕ) → i < length exchanges →
    exchanges_from lines (i + 1) (drop i exchanges)
    ≡ exchange_facts (i + 1) (line_of lines (i + 1)) (exchange_at exchanges (i + 1)) ∷ exchanges_from lines (i + 1 + 1)
    (drop (i + 1) exchanges)
exchanges_at lines exchanges i below =
    let same : i ≡ i + 1 - 1 = omega arith in
    ap (exchanges_from lines (i + 1)) (drop_more exchanges i no_exchange below)
    ∙ ap (λ j. exchange_facts (i + 1) (line_of lines (i + 1)) (get_or exchanges j no_exchange)
    ∷ exchanges_from lines (i + 1 + 1) (drop (i + 1) exchanges)) same

small_exchange : (e : Exchange) (k : ℕ) → HasSmall 1 (exchange_fields k e)
small_exchange e k = (
  small_count 1 k,
  (
    small_word 1 (purpose_word e.purpose),
    (
      small_counts 0 e.sent,
      (
        small_counts 0 e.received,
        (small_count 1 (relation_of e), tt),
      ),
    ),
  ),
)

small_line : (line : Option ℕ) → HasSmall 1 (line_fields line)
small_line None = tt
small_line (Some line) = (small_count 1 line, tt)

pub readable_exchange : (k : ℕ) (line : Option ℕ) (e : Exchange) → IsReadable (exchange_facts k line e)
readable_exchange k line e =
    smaller 2 127 (exchange_facts k line e) (lit≤ tt) (small_object 1 (exchange_fields k e ++ line_fields line)
    (has_all 1 (exchange_fields k e) (line_fields line) (small_exchange e k) (small_line line)))
