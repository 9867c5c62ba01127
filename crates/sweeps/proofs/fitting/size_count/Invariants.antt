use Rattle.std.proofs.Common.{◌≡◌, ◌+◌, ◌≤◌, drop}
use Rattle.sweeps.specs.Tables.{size_count}
use Rattle.sweeps.proofs.fitting.size_count.Given as goal

abbrev pub invariant-loop-i : goal.invariant-loop-i
invariant-loop-i l = (l.count + size_count (drop l.i l.table) ≡ size_count l.table) × (l.count ≤ l.i)
