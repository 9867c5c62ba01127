use Rattle.std.proofs.Common.{◌≡◌, ◌≤◌, ◌-◌, length}
use Rattle.combining.specs.Columns.{HaveComeTo}
use Rattle.combining.specs.Asked.{value_by}
use Rattle.combining.proofs.near.values_near.Given as goal

abbrev pub invariant-processors : goal.invariant-processors
invariant-processors l = record {
  each : HaveComeTo l.j (λ cell. value_by l.keys l.came l.ordinal cell) l.cells l.values;
  within : l.j ≤ length l.cells;
  count : length l.values ≡ length l.fn.values;
}

abbrev pub decreases-processors : goal.decreases-processors
decreases-processors l = length l.cells - l.j
