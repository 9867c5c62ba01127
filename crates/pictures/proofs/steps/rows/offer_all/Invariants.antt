use Rattle.std.proofs.Common.{◌≡◌, ◌≤◌, drop, length}
use Rattle.pictures.specs.Steps.Drawn.{with_all}
use Rattle.pictures.proofs.steps.rows.offer_all.Given as goal

abbrev pub invariant-loop-index : goal.invariant-loop-index
invariant-loop-index l = record {
  so_far : with_all l.rows.items (drop l.index-index l.fn.indices) ≡ with_all l.fn.rows.items l.fn.indices;
  few : length l.rows.items ≤ 64;
}
