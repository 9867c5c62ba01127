use Rattle.std.proofs.Common.{◌≡◌, drop}
use Rattle.sweeps.specs.Tables.{has_size}
use Rattle.sweeps.proofs.fitting.has_size.Given as goal

abbrev pub invariant-loop-row : goal.invariant-loop-row
invariant-loop-row l = has_size l.fn.size (drop l.row-index l.table) ≡ has_size l.fn.size l.table
