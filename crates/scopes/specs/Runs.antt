-- How one run comes out.
use Rattle.std.specs.Prelude.{ℕ, Bool, true, false, Option, Some, None, List, ℤ}
use Rattle.pram_check.specs.Checked.{Checked}
use Rattle.pram_meaning.specs.Computed.{body_done, verdict_at}
use Rattle.write_rules.specs.declared.fault.Fault.{Fault}
use Rattle.write_rules.specs.Verdict.{Verdict, Ended, Faulted, GoesOn}

-- what the run on an input comes to, within so many statements
abbrev pub verdict_on : Checked → ℕ → List ℤ → Verdict
verdict_on p n input = verdict_at (body_done p input n)

abbrev pub is_end : Verdict → Bool
is_end (Ended output memory) = true
is_end (Faulted fault output) = false
is_end (GoesOn output) = false

abbrev pub is_going_on : Verdict → Bool
is_going_on (Ended output memory) = false
is_going_on (Faulted fault output) = false
is_going_on (GoesOn output) = true

abbrev pub fault_of : Verdict → Option Fault
fault_of (Ended output memory) = None
fault_of (Faulted fault output) = Some fault
fault_of (GoesOn output) = None
