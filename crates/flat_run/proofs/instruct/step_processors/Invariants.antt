use Rattle.superstep_machine.specs.Steps.{on_own}
use Rattle.instruction_steps.specs.Views.{uniform_of}
use Rattle.flat_run.proofs.PartLemmas.{AreEach}
use Rattle.flat_run.proofs.instruct.step_processors.Given as goal

abbrev pub invariant-processors : goal.invariant-processors
invariant-processors l = AreEach (on_own l.code l.instr (uniform_of l.u)) l.fn.processors.items l.processors.items l.v
