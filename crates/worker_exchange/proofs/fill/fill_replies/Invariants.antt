use Rattle.std.proofs.Common.{◌≡◌, ◌≤◌, ◌*◌, ◌^◌, length, take, vec_capacity}
use Rattle.worker_exchange.specs.Rows.{words_in}
use Rattle.worker_exchange.specs.Sends.{words_of, reply_message}
use Rattle.worker_exchange.proofs.RowLemmas.{AreFilled}
use Rattle.worker_exchange.proofs.fill.fill_replies.Given as goal

abbrev pub invariant-workers : goal.invariant-workers
invariant-workers g l = record {
  filled : AreFilled (reply_message l.fn.key (g.M.AddressMap.shape l.map) l.part l.cells (words_of l.asked)) l.j (g.W.Row.filled l.row);
  words : l.sent ≡ words_in (take l.j (g.W.Row.filled l.row));
  fits : l.sent ≤ l.j * 2 ^ 32;
  long : length (g.W.Row.filled l.row) ≡ length l.asked;
  reply : vec_capacity l.reply ≡ vec_capacity l.fn.reply;
  room : g.W.Row.room l.row ≡ g.W.Row.room l.fn.row;
  kept : g.W.Row.kept l.fn.row l.row;
}
