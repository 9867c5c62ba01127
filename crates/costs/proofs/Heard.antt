-- One moment that is heard, counted.
use Rattle.std.proofs.Common.{◌≡◌, ◌∷◌, ◌++◌, ◌+◌, [], List, ℕ, length, Option, refl, ap, sym, ◌∙◌, append-nil, arith}
use Rattle.std.proofs.lemmas.List.Sums.{sum_by-cons}
use Rattle.pram_tokens.specs.declared.token.Location.{Location}
use Rattle.pram_meaning.specs.declared.key.Key.{Key}
use Rattle.pram_meaning.specs.Attempt.{Attempt}
use Rattle.pram_meaning.specs.Conflict.{Part}
use Rattle.pram_meaning.specs.Moments.{Action, Alone, StepAction, AssignsOn, TurnsOn, ChoosesOn, Together, Closed}
use Rattle.pram_meaning.specs.Store.{State}
use Rattle.exchange_bound.specs.Events.{Event, Cut}
use Rattle.costs.specs.declared.meter.Meter.{Meter}
use Rattle.costs.specs.declared.time_step.TimeStep.{TimeStep}
use Rattle.costs.specs.Accounts.{Accounts, entered, met_all}
use Rattle.costs.specs.Cost.{reads}
use Rattle.costs.specs.Heard.{HasCounted}
use Rattle.costs.specs.Ledgers.{ledger_is}
use Rattle.costs.specs.MomentEvents.{alone_events, set_events}
use Rattle.costs.specs.Steps.{by_one, by_set}

step_met : (q : ℕ) (s t : TimeStep) (es : List Event) (a : Accounts) → s ≡ t →
    entered q s (met_all es a) ≡ entered q t (met_all (es ++ []) a)
step_met q s t es a is = ap (λ s. entered q s (met_all es a)) is ∙ ap (λ es. entered q t (met_all es a)) (sym (append-nil es))

pub alone_counted : (a b : Meter) (here : Location) (act : Action) (before after : State) (x : Attempt (Option ℕ)) (s : TimeStep) →
    s ≡ by_one here.line x → b.schedule ≡ a.schedule →
    ledger_is b.ledger ≡ entered a.schedule s (met_all (alone_events act) (ledger_is a.ledger)) →
    b.outer_reads ≡ a.outer_reads + s.reads →
    HasCounted a (Alone here act before x after ∷ []) b
alone_counted a b here act before after x s is same e r =
    let one = by_one here.line x in
    let i : s.reads ≡ one.reads = ap (λ (s : TimeStep). s.reads) is in
    let j : reads (one ∷ []) ≡ one.reads + reads [] = sum_by-cons (λ (s : TimeStep). s.reads) one [] in
    record {
      schedule = same;
      ledger = e ∙ step_met a.schedule s one (alone_events act) (ledger_is a.ledger) is;
      outer_reads = omega (arith, r, i, j);
    }

-- what is spent doesn't depend on how many execute it
set_met : (k : ℕ) (act : StepAction) (a : Accounts) → met_all (set_events k act) a ≡ met_all (set_events 0 act) a
set_met k (AssignsOn x e) a = refl
set_met k (TurnsOn e) a = refl
set_met k (ChoosesOn e) a = refl

pub set_counted : (a b : Meter) (here : Location) (act : StepAction) (before after : State) (xs : List Part) (k : Option Key)
    (s : TimeStep) →
    s ≡ by_set here.line xs k → b.schedule ≡ a.schedule →
    ledger_is b.ledger ≡ entered a.schedule s (met_all (set_events 0 act) (ledger_is a.ledger)) →
    b.outer_reads ≡ a.outer_reads →
    HasCounted a (Together here act before xs k after ∷ []) b
set_counted a b here act before after xs k s is same e r = record {
  schedule = same;
  ledger = e ∙ ap (entered a.schedule s) (sym (set_met (length xs) act (ledger_is a.ledger)))
      ∙ step_met a.schedule s (by_set here.line xs k) (set_events (length xs) act) (ledger_is a.ledger) is;
  outer_reads = omega (arith, r);
}

pub close_counted : (a b : Meter) → b.schedule ≡ a.schedule → ledger_is b.ledger ≡ met_all (Cut ∷ []) (ledger_is a.ledger) →
    b.outer_reads ≡ a.outer_reads → HasCounted a (Closed ∷ []) b
close_counted a b same e r = record { schedule = same; ledger = e; outer_reads = omega (arith, r) }
