use Rattle.std.proofs.Common.{◌≡◌, ◌^◌, ◌||◌, ◌&&◌, not, ℕ, length, drop}
use Rattle.mpi_export.specs.Loops.{reads, is_in}
use Rattle.mpi_export.specs.Prepared.{flag_of}
use Rattle.mpi_export.proofs.marks.note_reads.Given as goal

abbrev pub invariant-loop-part : goal.invariant-loop-part
invariant-loop-part l =
    (length l.flags ≡ 2 ^ 16)
    × ((r : ℕ) → (flag_of l.flags r || (reads r (drop l.part-index l.parts) && not (is_in r l.set)))
    ≡ (flag_of l.fn.flags r || (reads r l.parts && not (is_in r l.set))))
