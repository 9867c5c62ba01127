-- What is said of a run that never ends.
use Rattle.std.proofs.Common.{◌≡◌, ℤ, List, Option, None, Some, inl, inr, refl}
use Rattle.pram_check.specs.Checked.{Checked}
use Rattle.endless_runs.specs.Endless.{HasCycle, NeverEnds}
use Rattle.endless_runs.specs.declared.cycle.Cycle.{Cycle}
use Rattle.command_text.specs.Explained.{IsCycleSaid, cycle_text}

pub cycle_said : (p : Checked) (input : List ℤ) (cycle : Option Cycle) → ((c : Cycle) → cycle ≡ Some c → NeverEnds p input) →
    ((c : Cycle) → cycle ≡ Some c → HasCycle p input c) → IsCycleSaid p input (cycle_text cycle)
cycle_said p input None never found = inl refl
cycle_said p input (Some c) never found = inr (c, never c refl, found c refl, refl)
