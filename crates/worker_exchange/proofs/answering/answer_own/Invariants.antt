use Rattle.std.proofs.Common.{◌≡◌, ◌<◌, ℕ, ℤ, length}
use Rattle.superstep_machine.specs.Answering.{answers}
use Rattle.worker_bank.specs.Bank.{registers_at, IsBank, IsSameBank}
use Rattle.worker_exchange.specs.Answered.{Gives}
use Rattle.worker_exchange.proofs.AnswerLemmas.{by_read, own_left}
use Rattle.worker_exchange.proofs.answering.answer_own.Given as goal

abbrev pub invariant-reads : goal.invariant-reads
invariant-reads l = record {
  answered : (value : ℕ → ℕ → ℤ) (j : ℕ) → Gives l.sent.held value → j < l.initial.bank.masks.many →
      own_left value l.awaited l.columns j l.k (registers_at l.bank j)
      ≡ answers value 0 (by_read l.awaited l.columns j) (registers_at l.initial.bank j);
  bank : IsBank l.bank;
  masks : l.bank.masks ≡ l.initial.bank.masks;
  same : IsSameBank l.initial.bank l.bank;
  count : length l.values.items ≡ length l.initial.values.items;
}
