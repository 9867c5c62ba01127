use Rattle.std.proofs.Common.{ℕ, ◌<◌, ◌≤◌, get_or}
use Rattle.superstep_machine.specs.Trace.{greatest}
use Rattle.exchange_counts.specs.CountedExchanges.{exchange_at}
use Rattle.exchange_counts.proofs.counts.Counts.exchange.Given as goal

abbrev pub invariant-workers : goal.invariant-workers
invariant-workers l = record {
  sent_most : (i : ℕ) → i < l.w → get_or (exchange_at l.self l.k).sent i 0 ≤ l.sent;
  sent_reached : l.sent ≤ greatest (exchange_at l.self l.k).sent;
  received_most : (i : ℕ) → i < l.w → get_or (exchange_at l.self l.k).received i 0 ≤ l.received;
  received_reached : l.received ≤ greatest (exchange_at l.self l.k).received;
}
