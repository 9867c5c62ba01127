use Rattle.std.proofs.Common.{◌≡◌, ◌≤◌, ◌-◌, List, Bool, length, vec_capacity}
use Rattle.combining.specs.Asked.{both}
use Rattle.combining.proofs.states.fill_up.Given as goal

abbrev pub invariant-loop-came : goal.invariant-loop-came
invariant-loop-came l = record {
  few : length l.came.items ≤ l.count;
  same : (marks : List Bool) → both marks l.came.items ≡ both marks l.fn.came.items;
  room : vec_capacity l.came ≡ vec_capacity l.fn.came;
}

abbrev pub decreases-loop-came : goal.decreases-loop-came
decreases-loop-came l = l.count - length l.came.items
