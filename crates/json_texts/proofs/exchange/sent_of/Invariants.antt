use Rattle.std.proofs.Common.{◌≡◌, take}
use Rattle.exchange_counts.specs.CountedExchanges.{exchange_at}
use Rattle.json_texts.proofs.exchange.sent_of.Given as goal

abbrev pub invariant-workers : goal.invariant-workers
invariant-workers l = l.words.items ≡ take l.w (exchange_at l.counts l.k).sent
