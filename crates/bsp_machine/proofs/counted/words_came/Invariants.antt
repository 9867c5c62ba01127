use Rattle.std.proofs.Common.{◌≡◌, ◌+◌, ◌*◌, ◌^◌, ◌≤◌, drop}
use Rattle.worker_exchange.specs.Rows.{words_in}
use Rattle.bsp_machine.proofs.counted.words_came.Given as goal

abbrev pub decreases-messages : goal.decreases-messages
decreases-messages g l = l.from

abbrev pub invariant-messages : goal.invariant-messages
invariant-messages g l = record {
  counted : l.words ≡ words_in (drop l.from (g.C.Column.came l.column));
  below : l.words + l.from * 2 ^ 32 ≤ l.workers * 2 ^ 32;
  within : l.from ≤ l.workers;
}
