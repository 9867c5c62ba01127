use Rattle.std.proofs.Common.{◌≡◌, ◌+◌, ◌-◌, ◌≤◌, length, drop}
use Rattle.std.specs.List.{position_or_len}
use Rattle.std.specs.Prelude.{nat_eq}
use Rattle.pictures.proofs.flows.measure.row_of.Given as goal

abbrev pub invariant-loop-row : goal.invariant-loop-row
invariant-loop-row l = record {
  is : l.row + position_or_len (λ r. nat_eq r l.cell) (drop l.row l.rows) ≡ position_or_len (λ r. nat_eq r l.cell) l.rows;
  within : l.row ≤ length l.rows;
}

abbrev pub decreases-loop-row : goal.decreases-loop-row
decreases-loop-row l = length l.rows - l.row
