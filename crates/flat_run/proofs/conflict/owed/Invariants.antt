use Rattle.std.proofs.Common.{None}
use Rattle.pram_model.specs.Layout.{total_size}
use Rattle.superstep_machine.specs.Keys.{least}
use Rattle.superstep_machine.specs.Sending.{put_conflict, verdict_on}
use Rattle.instruction_steps.specs.Views.{put_is}
use Rattle.flat_run.specs.Views.{held_of}
use Rattle.flat_run.proofs.SumLemmas.{IsSumFrom}
use Rattle.flat_run.proofs.conflict.owed.Given as goal

abbrev pub invariant-cells : goal.invariant-cells
invariant-cells l =
    IsSumFrom None least (λ c. put_conflict (put_is l.machine.uniform.put) c (verdict_on l.code.rule (held_of l.machine.held.items c)))
    (total_size l.code.layout) l.c l.noted

abbrev pub decreases-cells : goal.decreases-cells
decreases-cells l = l.c
