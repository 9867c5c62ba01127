-- What the last of a run's entries tells is what its fault does.
use Rattle.std.proofs.Common.{◌≡◌, ◌∙◌, ◌∷◌, [], ℕ, ℤ, List, Option, Some, None, ap, refl, sym}
use Rattle.pram_check.specs.Checked.{Checked}
use Rattle.journal.specs.Entries.{Entry, Faulting, Ran}
use Rattle.journal.specs.RunEntries.{run_entries}
use Rattle.journal.specs.LastFault.{fault_behind, run_fault}
use Rattle.diagnoses.specs.Reasons.{Reason, last_reason, reason_in, run_reason}

behind_is : (p : Checked) (before : Option Entry) (es : List Entry) →
    last_reason p (reason_in p before) es ≡ reason_in p (fault_behind before es)
behind_is p before [] = refl
behind_is p before (Ran here acts changed variables locals items ∷ es) = behind_is p None es
behind_is p before (Faulting here fault cause acts met locals ∷ es) = behind_is p (Some (Faulting here fault cause acts met locals)) es

pub reason_told : (p : Checked) (input : List ℤ) (n : ℕ) (fault : Option Entry) (r : Reason) → fault ≡ run_fault p input n →
    r ≡ reason_in p fault → r ≡ run_reason p input n
reason_told p input n fault r f is = is ∙ ap (reason_in p) f ∙ sym (behind_is p None (run_entries p input n))
