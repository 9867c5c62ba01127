use Rattle.std.proofs.Common.{◌≡◌, ◌≤◌, ◌++◌, length, drop}
use Rattle.mpi_export.specs.Loops.{is_target, rows_from, rows_of}
use Rattle.mpi_export.specs.Prepared.{loop_of}
use Rattle.mpi_export.proofs.alone_plan.rows.Given as goal

abbrev pub invariant-loop-at : goal.invariant-loop-at
invariant-loop-at l =
    (length l.here.set.items ≡ length l.code.instructions) × (l.here.count ≤ l.at)
    × (l.rows.items ++ rows_from (is_target l.code) l.code.rule (loop_of l.here) l.at (drop l.at l.code.instructions) ≡ rows_of l.code)
