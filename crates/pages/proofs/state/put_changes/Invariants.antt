use Rattle.std.proofs.Common.{◌≡◌, drop}
use Rattle.std.specs.List.{fold}
use Rattle.journal.specs.Replay.{with_change}
use Rattle.pages.proofs.state.put_changes.Given as goal

abbrev pub invariant-loop-change : goal.invariant-loop-change
invariant-loop-change l = fold with_change l.values.items (drop l.change-index l.changes) ≡ fold with_change l.fn.values.items l.changes
