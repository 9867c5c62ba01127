use Rattle.flat_machine.specs.ByInstructions.{steps, everywhere}
use Rattle.flat_run.specs.RunViews.{state_of, IsRun, AreSameStates}
use Rattle.flat_run.proofs.program.advance.Given as goal

abbrev pub invariant-instructions : goal.invariant-instructions
invariant-instructions l =
    IsRun l.code l.bound l.run
    × AreSameStates (steps l.code l.bound everywhere l.left (state_of l.run)) (steps l.code l.bound everywhere l.most (state_of l.fn.run))

abbrev pub decreases-instructions : goal.decreases-instructions
decreases-instructions l = l.left
