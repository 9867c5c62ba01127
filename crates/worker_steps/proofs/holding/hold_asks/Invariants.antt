use Rattle.std.proofs.Common.{◌≡◌, ◌≤◌, ◌+◌, length}
use Rattle.combining.specs.Adding.{by_read, asked_after}
use Rattle.worker_steps.specs.Held.{cells_of}
use Rattle.worker_steps.proofs.holding.hold_asks.Given as goal

abbrev pub invariant-processors : goal.invariant-processors
invariant-processors l = record {
  held : l.asks.held ≡ asked_after (by_read l.ordinal (cells_of l.cells l.j)) l.fn.asks.held;
  few : length l.asks.held ≤ length l.fn.asks.held + l.j;
  room : l.asks.room ≡ l.fn.asks.room;
}
