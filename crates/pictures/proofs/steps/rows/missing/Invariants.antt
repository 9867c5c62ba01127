use Rattle.std.proofs.Common.{◌≡◌, ◌≤◌, ◌+◌, drop, map}
use Rattle.journal.specs.Entries.{act_is}
use Rattle.pictures.specs.Steps.Drawn.{missing}
use Rattle.pictures.proofs.steps.rows.missing.Given as goal

abbrev pub invariant-loop-act : goal.invariant-loop-act
invariant-loop-act l = record {
  so_far : l.count + missing l.rows (map act_is (drop l.act-index l.acts)) ≡ missing l.rows (map act_is l.acts);
  few : l.count ≤ l.act-index;
}
