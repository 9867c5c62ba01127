use Rattle.std.proofs.Common.{◌≡◌, ◌≤◌, ◌-◌, drop, length, map}
use Rattle.journal.specs.Entries.{act_is}
use Rattle.pictures.specs.Steps.Drawn.{indices, with_others}
use Rattle.pictures.proofs.steps.rows.offer_acts.Given as goal

abbrev pub invariant-loop-act : goal.invariant-loop-act
invariant-loop-act l = record {
  so_far : with_others l.fn.those l.rows.items (indices (map act_is (drop l.act-index l.fn.acts)))
      ≡ with_others l.fn.those l.fn.rows.items (indices (map act_is l.fn.acts));
  few : length l.rows.items ≤ 64 - length l.fn.those;
}
