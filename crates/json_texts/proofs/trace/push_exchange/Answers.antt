use Rattle.std.proofs.Common.{subst, sym}
use Rattle.json_texts.specs.Small.{IsReadable}
use Rattle.exchange_counts.specs.CountedExchanges.{exchange_at}
use Rattle.json_texts.proofs.ExchangeFacts.{readable_exchange}
use Rattle.json_texts.proofs.trace.push_exchange.Goals as goal

pub push_line-requires : goal.push_line-requires
push_line-requires c = record {
  readable = subst IsReadable (sym c.in_ok-facts.ensures) (readable_exchange c.args.k c.args.line (exchange_at c.args.counts.now c.args.k));
}
