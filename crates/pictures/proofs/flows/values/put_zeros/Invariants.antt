use Rattle.std.proofs.Common.{◌≡◌, ◌+◌, ◌-◌, ℕ, length}
use Rattle.pictures.specs.Flows.Values.{value_at}
use Rattle.pictures.proofs.flows.values.put_zeros.Given as goal

abbrev pub invariant-loop-values : goal.invariant-loop-values
invariant-loop-values l = (k : ℕ) → value_at l.values.items k ≡ value_at l.fn.values.items k

abbrev pub decreases-loop-values : goal.decreases-loop-values
decreases-loop-values l = l.cell + 1 - length l.values.items
