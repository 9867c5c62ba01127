use Rattle.std.proofs.Common.{None}
use Rattle.superstep_machine.specs.Keys.{least}
use Rattle.superstep_machine.specs.Steps.{own_key}
use Rattle.instruction_steps.specs.Views.{uniform_of}
use Rattle.flat_run.specs.Views.{own_of}
use Rattle.flat_run.proofs.SumLemmas.{IsSumFrom}
use Rattle.flat_run.proofs.instruct.own_keys.Given as goal

abbrev pub invariant-processors : goal.invariant-processors
invariant-processors l = IsSumFrom None least (λ v. own_key l.code l.instr (uniform_of l.u) v (own_of l.processors v)) l.u.width l.v
    l.noted

abbrev pub decreases-processors : goal.decreases-processors
decreases-processors l = l.v
