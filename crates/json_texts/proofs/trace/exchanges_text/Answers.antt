use Rattle.std.proofs.Common.{◌∙◌, ◌<◌, ◌+◌, ◌∷◌, [], ap, arith, drop, length, sym}
use Rattle.json_texts.proofs.Json.{goes_on}
use Rattle.exchange_counts.specs.CountedExchanges.{exchange_at}
use Rattle.json_texts.specs.TraceFacts.{exchange_facts, exchanges_from}
use Rattle.json_texts.proofs.ExchangeFacts.{exchanges_at}
use Rattle.json_texts.proofs.trace.exchanges_text.Goals as goal

pub exchanges-preserved : goal.exchanges-preserved
exchanges-preserved c =
    let counts = c.args.counts.now in
    let lines = c.args.lines.now in
    let i = c.exchanges.i in
    let test = c.exchanges-test.true in
    let long = c.len-i-end.ensures in
    let below : i < length counts = omega (arith, test, long) in
    record {
      so_far = goes_on (exchanges_from lines 1 counts) (exchanges_from lines (i + 1) (drop i counts))
          (exchange_facts (i + 1) c.line_of.result (exchange_at counts (i + 1)) ∷ [])
          (exchanges_from lines (i + 1 + 1) (drop (i + 1) counts)) _ _ c.exchanges.invariant.so_far
          (exchanges_at lines counts i below ∙ ap (λ l. exchange_facts (i + 1) l (exchange_at counts (i + 1))
          ∷ exchanges_from lines (i + 1 + 1) (drop (i + 1) counts)) (sym c.line_of.ensures)) c.in_ok-push_exchange.ensures.json;
    }
