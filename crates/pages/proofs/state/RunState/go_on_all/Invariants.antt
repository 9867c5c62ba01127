use Rattle.std.proofs.Common.{◌≡◌, map, take}
use Rattle.std.specs.List.{fold}
use Rattle.journal.specs.Entries.{entry_is}
use Rattle.journal.specs.Replay.{with_cells, with_printed, with_variables}
use Rattle.pages.proofs.state.RunState.go_on_all.Given as goal

abbrev pub invariant-loop-entry : goal.invariant-loop-entry
invariant-loop-entry l = record {
  cells : l.self.cells.items ≡ fold with_cells l.fn.self.cells.items (map entry_is (take l.entry-index l.entries));
  variables : l.self.variables.items ≡ fold with_variables l.fn.self.variables.items (map entry_is (take l.entry-index l.entries));
  printed : l.self.printed ≡ fold with_printed l.fn.self.printed (map entry_is (take l.entry-index l.entries));
}
