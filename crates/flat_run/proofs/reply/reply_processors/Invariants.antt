use Rattle.std.proofs.Common.{◌-◌, length, map}
use Rattle.superstep_machine.specs.Answering.{own_answered}
use Rattle.instruction_steps.specs.Views.{registers_of, read_is}
use Rattle.flat_run.proofs.PartLemmas.{AreEach}
use Rattle.flat_run.proofs.reply.reply_processors.Given as goal

abbrev pub invariant-processors : goal.invariant-processors
invariant-processors l = AreEach (λ v. own_answered (λ k c. registers_of l.memory c)
    (map read_is l.awaited)) l.fn.processors.items l.processors.items l.v

abbrev pub decreases-processors : goal.decreases-processors
decreases-processors l = length l.fn.processors.items - l.v
