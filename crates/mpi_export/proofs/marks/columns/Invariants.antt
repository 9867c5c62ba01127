use Rattle.std.proofs.Common.{◌≡◌, ◌^◌, ◌≤◌, ◌||◌, ℕ, length, drop}
use Rattle.mpi_export.specs.Loops.{is_taken_over, is_target, takes_over}
use Rattle.mpi_export.specs.Prepared.{flag_of, loop_of}
use Rattle.mpi_export.proofs.marks.columns.Given as goal

abbrev pub invariant-loop-at : goal.invariant-loop-at
invariant-loop-at l =
    (length l.flags.items ≡ 2 ^ 16) × (length l.here.set.items ≡ length l.code.instructions) × (l.here.count ≤ l.at)
    × ((r : ℕ) → (flag_of l.flags.items r || takes_over (is_target l.code) l.code.rule (loop_of l.here) l.at (drop l.at l.code.instructions) r)
    ≡ is_taken_over l.code r)
