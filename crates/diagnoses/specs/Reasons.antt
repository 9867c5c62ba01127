-- What is known of why a run faults.
use Rattle.std.specs.Prelude.{ℕ, ℤ, List, [], ◌∷◌, Option, Some, None}
use Rattle.pram_check.specs.Checked.{Checked}
use Rattle.journal.specs.Causes.{Cause, known_cause}
use Rattle.journal.specs.Entries.{Entry, Ran, Faulting}
use Rattle.journal.specs.RunEntries.{run_entries}
use Rattle.diagnoses.specs.WrongElements.{wrong_element}
use Rattle.diagnoses.specs.declared.reason as rust

-- the cause, if it is known; those that met at a cell; and where the element stands whose subscript is wrong, if it is that
pub record Reason : Type 0 where
  pub cause : Option Cause
  pub met : List ℤ
  pub at : Option ℕ

-- nothing is known
abbrev pub unknown : Reason
unknown = record { cause = None; met = []; at = None }

abbrev pub reason_is : rust.Reason.Reason → Reason
reason_is r = record { cause = known_cause r.cause; met = r.met.items; at = r.at }

-- what an entry tells of it
abbrev pub reason_of : Checked → Entry → Reason
reason_of p (Ran here acts cells variables locals items) = unknown
reason_of p (Faulting here fault cause acts met locals) =
    record { cause = cause; met = met; at = wrong_element p here acts fault.place cause }

-- what the entry of a fault tells, if there is one
abbrev pub reason_in : Checked → Option Entry → Reason
reason_in p None = unknown
reason_in p (Some e) = reason_of p e

-- what the last of these does, or this one
abbrev pub last_reason : Checked → Reason → List Entry → Reason
last_reason p r [] = r
last_reason p r (e ∷ es) = last_reason p (reason_of p e) es

-- why a program's run faults on an input, of at most n statements: the fault is the last entry
abbrev pub run_reason : Checked → List ℤ → ℕ → Reason
run_reason p input n = last_reason p unknown (run_entries p input n)
