use Rattle.std.proofs.Common.{◌≡◌, ◌^◌, ◌||◌, ℕ, length, drop}
use Rattle.std.specs.List.{list_any}
use Rattle.mpi_export.specs.Loops.{jumps_to}
use Rattle.mpi_export.specs.Prepared.{flag_of}
use Rattle.mpi_export.proofs.marks.targets.Given as goal

abbrev pub invariant-loop-instr : goal.invariant-loop-instr
invariant-loop-instr l =
    (length l.flags.items ≡ 2 ^ 16)
    × ((t : ℕ) → (flag_of l.flags.items t || list_any (jumps_to t) (drop l.instr-index l.instructions)) ≡ list_any (jumps_to t) l.instructions)
