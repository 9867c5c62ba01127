-- The states that a worker may come to, whatever the other workers send.
use Rattle.std.specs.Prelude.{◌≡◌, ℕ, zero, suc, ◌+◌, ◌*◌, List, length, ℤ}
use Rattle.std.specs.List.{AllByRecursion}
use Rattle.superstep_instructions.specs.Code.{SuperstepCode}
use Rattle.superstep_machine.specs.Setting.{Setting}
use Rattle.superstep_machine.specs.Words.{Message}
use Rattle.superstep_machine.specs.Run.{State, opening, ready, after}
use Rattle.machine_limits.specs.Within.{AreValues}

-- By n exchanges worker w comes to a state, from an input whose values in its module have 64 bits, at each of them whatever column with
-- such values came.
abbrev pub IsReached : Setting → ℕ → ℕ → State → Type 0
IsReached t w zero s = (input : List ℤ) × AreValues (opening t input w).worker.cells × (s ≡ opening t input w)
IsReached t w (suc n) s =
    (before : State) × (column : List Message) × IsReached t w n before × AllByRecursion (λ (m : Message). AreValues m.values) column
    × (s ≡ after t w (ready t w before) column)

-- no stretch between two exchanges has more instructions
abbrev pub most_instructions : SuperstepCode → ℕ → ℕ
most_instructions code bound = bound * (length code.instructions + 1) + length code.instructions
