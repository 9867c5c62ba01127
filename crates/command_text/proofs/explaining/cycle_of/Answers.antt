use Rattle.std.proofs.Common.{List, ℤ, subst}
use Rattle.endless_runs.specs.Endless.{HasCycle, NeverEnds}
use Rattle.command_text.proofs.explaining.cycle_of.Goals as goal

pub returns-clause-never : goal.returns-clause-never
returns-clause-never g c =
    λ cycle is. subst (λ (input : List ℤ). NeverEnds c.args.run.now.loaded.program input) c.deref.ensures.value
    (c.find_cycle-found.ensures.never cycle is)

pub returns-clause-found : goal.returns-clause-found
returns-clause-found g c =
    λ cycle is. subst (λ (input : List ℤ). HasCycle c.args.run.now.loaded.program input cycle) c.deref.ensures.value
    (c.find_cycle-found.ensures.found cycle is)
