-- Preconditions and postconditions that are programs.
use Rattle.std.specs.Prelude.{ℕ, min, Bool, true, false, not, Option, Some, None, List, [], ◌∷◌, ℤ}
use Rattle.std.specs.List.{filter}
use Rattle.pram_check.specs.Checked.{Checked}
use Rattle.pram_model.specs.Layout.{total_size}
use Rattle.pram_values.specs.Truth.{is_nonzero}
use Rattle.write_rules.specs.Verdict.{Verdict, Ended, Faulted, GoesOn}
use Rattle.scopes.specs.Handed.{handed_on}
use Rattle.scopes.specs.Runs.{verdict_on}

-- ---- what affirms

-- the last of some numbers is there and isn't 0
abbrev pub ends_nonzero : List ℤ → Bool
ends_nonzero [] = false
ends_nonzero (v ∷ []) = is_nonzero v
ends_nonzero (v ∷ (w ∷ vs)) = ends_nonzero (w ∷ vs)

-- an end whose last printed number isn't 0
abbrev pub is_yes : Verdict → Bool
is_yes (Ended output memory) = ends_nonzero output
is_yes (Faulted fault output) = false
is_yes (GoesOn output) = false

-- a program affirms an input where its run on it, within so many statements, comes to that
abbrev pub affirms : Checked → ℕ → List ℤ → Bool
affirms p n input = is_yes (verdict_on p n input)

-- ---- preconditions

-- an input counts where the precondition affirms it; each does where there is none
abbrev pub counts : Option Checked → ℕ → List ℤ → Bool
counts None n input = true
counts (Some q) n input = affirms q n input

-- those that count
abbrev pub counting : Option Checked → ℕ → List (List ℤ) → List (List ℤ)
counting q n inputs = filter (counts q n) inputs

-- how many values an input may have: as many as the program has cells, and as the precondition has
abbrev pub most_values : Option Checked → Checked → ℕ
most_values None p = total_size p.layout
most_values (Some q) p = min (total_size p.layout) (total_size q.layout)

-- ---- postconditions

-- a run fails where it ended and the postcondition doesn't affirm what is handed on; none does where there is no postcondition
abbrev pub is_failing : Option Checked → Checked → ℕ → List ℤ → Verdict → Bool
is_failing None p n input v = false
is_failing (Some q) p n input (Ended output memory) = not (affirms q n (handed_on p q input memory))
is_failing (Some q) p n input (Faulted fault output) = false
is_failing (Some q) p n input (GoesOn output) = false

-- that on an input does
abbrev pub fails : Option Checked → Checked → ℕ → List ℤ → Bool
fails q p n input = is_failing q p n input (verdict_on p n input)

-- the inputs on which it does
abbrev pub failing : Option Checked → Checked → ℕ → List (List ℤ) → List (List ℤ)
failing q p n inputs = filter (fails q p n) inputs
