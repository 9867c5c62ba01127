use Rattle.std.proofs.Common.{◌≡◌, ℕ, [], length, take}
use Rattle.worker_exchange.specs.Rows.{words_in}
use Rattle.worker_exchange.proofs.RowLemmas.{AreFilled}
use Rattle.worker_exchange.proofs.fill.fill_headers.Given as goal

abbrev pub invariant-workers : goal.invariant-workers
invariant-workers g l = record {
  filled : AreFilled (λ (j : ℕ). record { header = l.words; words = [] }) l.j (g.W.Row.filled l.row);
  words : words_in (take l.j (g.W.Row.filled l.row)) ≡ 0;
  long : length (g.W.Row.filled l.row) ≡ l.workers;
  room : g.W.Row.room l.row ≡ g.W.Row.room l.fn.row;
  kept : g.W.Row.kept l.fn.row l.row;
}
