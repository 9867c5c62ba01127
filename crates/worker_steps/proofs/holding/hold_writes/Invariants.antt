use Rattle.std.proofs.Common.{◌≡◌, ◌≤◌, ◌+◌, length}
use Rattle.instruction_steps.specs.Views.{uniform_of}
use Rattle.combining.specs.Held.{held_after}
use Rattle.worker_steps.specs.Held.{writes_of}
use Rattle.worker_steps.proofs.holding.hold_writes.Given as goal

abbrev pub invariant-processors : goal.invariant-processors
invariant-processors g l = record {
  held : l.puts.held ≡ held_after (g.R.WriteRule.rule l.rule) (writes_of (uniform_of l.u) l.bank l.cells l.values l.j) l.fn.puts.held;
  few : length l.puts.held ≤ length l.fn.puts.held + l.j;
  room : l.puts.room ≡ l.fn.puts.room;
}
