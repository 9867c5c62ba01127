-- What is found of a run, beside the first run that ended.
use Rattle.std.specs.Prelude.{◌≡◌, ◌≢◌, ℤ, List, [], ◌∷◌, Option, Some, None}
use Rattle.write_rules.specs.Verdict.{Verdict, Ended, Faulted, GoesOn}
use Rattle.comparing.specs.declared.finding.Finding.{Finding}
use Rattle.comparing.specs.declared.finding.Finding.TheVariants as finding

-- output and memory of the first verdict that is an end
abbrev pub first_end : List Verdict → Option (List ℤ × List ℤ)
first_end [] = None
first_end (Ended output memory ∷ verdicts) = Some (output, memory)
first_end (Faulted fault output ∷ verdicts) = first_end verdicts
first_end (GoesOn output ∷ verdicts) = first_end verdicts

-- what is found of a verdict, where the first end is that one: an end is the same exactly with that output and that memory
abbrev pub IsFound : Option (List ℤ × List ℤ) → Verdict → Finding → Type 0
IsFound first (Ended output memory) finding.Same = first ≡ Some (output, memory)
IsFound first (Ended output memory) finding.Other = first ≢ Some (output, memory)
IsFound first (Faulted fault output) (finding.Faulted told) = told ≡ fault
IsFound first (GoesOn output) finding.GoesOn = Unit {0}
IsFound first _ _ = ⊥
