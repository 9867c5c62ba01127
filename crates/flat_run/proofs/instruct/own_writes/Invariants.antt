use Rattle.std.proofs.Common.{◌≡◌, ℕ, ◌<◌, ◌≤◌, length, None}
use Rattle.superstep_machine.specs.Sending.{join}
use Rattle.superstep_machine.specs.Steps.{index_of, own_write}
use Rattle.flat_machine.specs.Flat.{single_to}
use Rattle.instruction_steps.specs.Views.{uniform_of}
use Rattle.flat_run.specs.Views.{own_of, held_of}
use Rattle.flat_run.proofs.SumLemmas.{IsSumFrom}
use Rattle.flat_run.proofs.instruct.own_writes.Given as goal

abbrev pub invariant-processors : goal.invariant-processors
invariant-processors g l =
    (length l.held.items ≡ length l.fn.held.items)
    × ((c : ℕ) → c < length l.fn.held.items → IsSumFrom None (join (g.R.WriteRule.rule l.rule))
    (λ v. single_to (g.R.WriteRule.rule l.rule) c (index_of (uniform_of l.u) v) (own_write l.code l.instr
    (own_of l.processors v))) l.u.width l.v
    (held_of l.held.items c))
    × (l.v ≤ l.u.width)

abbrev pub decreases-processors : goal.decreases-processors
decreases-processors g l = l.v
