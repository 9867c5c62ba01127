use Rattle.std.proofs.Common.{length, None}
use Rattle.superstep_machine.specs.Sending.{several, asks_for, cell_at}
use Rattle.flat_run.specs.Views.{own_of}
use Rattle.flat_run.proofs.SumLemmas.{IsSumFrom}
use Rattle.flat_run.proofs.conflict.askers.Given as goal

abbrev pub invariant-processors : goal.invariant-processors
invariant-processors l = IsSumFrom None several (λ v. asks_for l.cell (cell_at l.k (own_of l.processors v).asks))
    (length l.processors) l.v l.came

abbrev pub decreases-processors : goal.decreases-processors
decreases-processors l = l.v
