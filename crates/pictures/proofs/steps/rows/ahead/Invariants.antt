use Rattle.std.proofs.Common.{◌≡◌, ◌+◌, ◌-◌, ◌≤◌, length, drop}
use Rattle.pictures.specs.Steps.Drawn.{ahead}
use Rattle.pictures.proofs.steps.rows.ahead.Given as goal

abbrev pub invariant-loop-at : goal.invariant-loop-at
invariant-loop-at l = record {
  is : l.at + ahead (drop l.at l.rows) l.fn.index ≡ ahead l.rows l.fn.index;
  within : l.at ≤ length l.rows;
}

abbrev pub decreases-loop-at : goal.decreases-loop-at
decreases-loop-at l = length l.rows - l.at
