use Rattle.std.proofs.Common.{◌≡◌, ◌+◌, ℕ, ℤ, length}
use Rattle.combining.specs.Columns.{HaveComeTo}
use Rattle.combining.specs.Asked.{value_by}
use Rattle.combining.proofs.near.values_in_run.Given as goal

abbrev pub invariant-run : goal.invariant-run
invariant-run l =
    let value : ℕ → ℤ = λ cell. value_by l.keys l.came l.ordinal cell in
    record {
      each : HaveComeTo l.from value l.cells l.fn.values → HaveComeTo (l.from + l.k) value l.cells l.values;
      count : length l.values ≡ length l.fn.values;
    }
