use Rattle.std.proofs.Common.{None}
use Rattle.pram_model.specs.Layout.{total_size}
use Rattle.superstep_machine.specs.Keys.{least}
use Rattle.instruction_steps.specs.Views.{read_is}
use Rattle.flat_run.specs.Views.{flat_of}
use Rattle.flat_run.proofs.ConflictLemmas.{conflict_by}
use Rattle.flat_run.proofs.SumLemmas.{IsSumFrom}
use Rattle.flat_run.proofs.conflict.read_conflict.Given as goal

abbrev pub invariant-cells : goal.invariant-cells
invariant-cells l = IsSumFrom None least (conflict_by (flat_of l.machine) l.k (read_is l.read)) (total_size l.code.layout) l.c l.noted

abbrev pub decreases-cells : goal.decreases-cells
decreases-cells l = l.c
