-- A whole run that was heard is counted.
use Rattle.std.proofs.Common.{◌≡◌, ℕ, List, ℤ, Result, Ok, ap, subst, sym, ◌∙◌}
use Rattle.std.specs.Result.{OnOk}
use Rattle.pram_check.specs.Checked.{Checked}
use Rattle.pram_meaning.specs.Moments.{run_moments}
use Rattle.costs.specs.declared.ledger.Ledger.{Ledger}
use Rattle.costs.specs.Accounts.{entered_all, met_all, opened}
use Rattle.costs.specs.Counted.{counted}
use Rattle.costs.specs.Heard.{with_moments}
use Rattle.costs.specs.Ledgers.{ledger_is}
use Rattle.costs.specs.Steps.{run_steps}
use Rattle.costs.proofs.MomentEvents.{events_are_met}

pub run_counted : (p : Checked) (input : List ℤ) (n q : ℕ) (old new : Ledger) → ledger_is old ≡ opened →
    ledger_is new ≡ with_moments q (run_moments p input n) (ledger_is old) → ledger_is new ≡ counted p input n q
run_counted p input n q old new opens is =
    is ∙ ap (with_moments q (run_moments p input n)) opens
    ∙ ap (λ es. entered_all q (run_steps p input n) (met_all es opened)) (sym (events_are_met p input n))

-- what holds where there is an answer
pub given_ok : {A E : Type 0} (r : Result A E) (P : Type 0) (a : A) → r ≡ Ok a → OnOk r P → P
given_ok r P a is h = subst (λ r. OnOk r P) is h
