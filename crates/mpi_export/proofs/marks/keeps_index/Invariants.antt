use Rattle.std.proofs.Common.{◌≡◌, false, drop}
use Rattle.mpi_export.specs.Loops.{keeps_index}
use Rattle.mpi_export.proofs.marks.keeps_index.Given as goal

abbrev pub invariant-loop-instr : goal.invariant-loop-instr
invariant-loop-instr l = keeps_index l.entered (drop l.instr-index l.instructions) ≡ keeps_index false l.instructions
