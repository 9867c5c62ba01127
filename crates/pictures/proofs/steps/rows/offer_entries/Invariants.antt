use Rattle.std.proofs.Common.{◌≡◌, ◌≤◌, ◌-◌, drop, length, map}
use Rattle.journal.specs.Entries.{entry_is}
use Rattle.pictures.specs.Steps.Drawn.{acting, with_others}
use Rattle.pictures.proofs.steps.rows.offer_entries.Given as goal

abbrev pub invariant-loop-entry : goal.invariant-loop-entry
invariant-loop-entry l = record {
  so_far : with_others l.fn.those l.rows.items (acting (map entry_is (drop l.entry-index l.fn.entries)))
      ≡ with_others l.fn.those l.fn.rows.items (acting (map entry_is l.fn.entries));
  few : length l.rows.items ≤ 64 - length l.fn.those;
}
