use Rattle.std.proofs.Common.{◌≡◌, drop}
use Rattle.sweeps.specs.SweptTables.{table}
use Rattle.sweeps.proofs.Tabled.{behind}
use Rattle.sweeps.proofs.growths.table_of.Given as goal

-- the rows so far, and those of what is left
abbrev pub invariant-loop-row : goal.invariant-loop-row
invariant-loop-row l = table l.measure l.rows ≡ behind l.table.items (table l.measure (drop l.row-index l.rows))
