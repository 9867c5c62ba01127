use Rattle.std.proofs.Common.{◌-◌, length}
use Rattle.superstep_machine.specs.Sending.{own_sent}
use Rattle.flat_run.proofs.PartLemmas.{AreEach}
use Rattle.flat_run.proofs.send.send_processors.Given as goal

abbrev pub invariant-processors : goal.invariant-processors
invariant-processors l = AreEach (λ v. own_sent) l.fn.processors.items l.processors.items l.v

abbrev pub decreases-processors : goal.decreases-processors
decreases-processors l = length l.fn.processors.items - l.v
