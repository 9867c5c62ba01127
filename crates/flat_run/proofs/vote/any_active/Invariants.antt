use Rattle.std.proofs.Common.{length, false, ◌||◌}
use Rattle.superstep_machine.specs.Steps.{is_active}
use Rattle.flat_run.specs.Views.{own_of}
use Rattle.flat_run.proofs.SumLemmas.{IsSumFrom}
use Rattle.flat_run.proofs.vote.any_active.Given as goal

abbrev pub invariant-processors : goal.invariant-processors
invariant-processors l = IsSumFrom false (λ a b. a || b) (λ v. is_active (own_of l.processors v)) (length l.processors) l.v
    l.active

abbrev pub decreases-processors : goal.decreases-processors
decreases-processors l = l.v
