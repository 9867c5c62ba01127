use Rattle.std.proofs.Common.{◌≡◌, ◌≤◌, drop}
use Rattle.worker_exchange.specs.Received.{mark_heard, key_heard, any_heard}
use Rattle.worker_exchange.proofs.hearing.hear.Given as goal

abbrev pub invariant-headers : goal.invariant-headers
invariant-headers g l = record {
  low : l.i ≤ l.workers;
  mark : l.heard.mark ≡ mark_heard (drop l.i (g.C.Column.came l.column));
  key : l.heard.key ≡ key_heard (drop l.i (g.C.Column.came l.column));
  active : l.heard.active ≡ any_heard (drop l.i (g.C.Column.came l.column));
}

abbrev pub decreases-headers : goal.decreases-headers
decreases-headers g l = l.i
