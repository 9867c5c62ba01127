-- What is counted of moments that are heard in a row.
use Rattle.std.proofs.Common.{◌≡◌, ℕ, ◌+◌, List, [], ◌∷◌, ◌++◌, refl, ap, sym, ◌∙◌, arith}
use Rattle.std.proofs.lemmas.Grind.{flat_map-append}
use Rattle.std.proofs.lemmas.List.Sums.{sum_by-append}
use Rattle.std.specs.List.{flat_map}
use Rattle.exchange_bound.specs.Events.{Event}
use Rattle.pram_meaning.specs.Moments.{Moment}
use Rattle.costs.specs.declared.meter.Meter.{Meter}
use Rattle.costs.specs.declared.time_step.TimeStep.{TimeStep}
use Rattle.costs.specs.Accounts.{Accounts, entered, entered_all, met_all}
use Rattle.costs.specs.Communication.{steps_outside}
use Rattle.costs.specs.Cost.{reads}
use Rattle.costs.specs.Heard.{HasCounted, with_moments}
use Rattle.costs.specs.Ledgers.{ledger_is}
use Rattle.costs.specs.MomentEvents.{events_at}
use Rattle.costs.specs.Spending.{Spending, spend, spend_all}
use Rattle.costs.specs.Steps.{steps_of}

entered_through : (q : ℕ) (xs ys : List TimeStep) (t : Accounts) → entered_all q (xs ++ ys) t ≡ entered_all q ys (entered_all q xs t)
entered_through q [] ys t = refl
entered_through q (x ∷ xs) ys t = entered_through q xs ys (entered q x t)

spent_through : (xs ys : List Event) (s : Spending) → spend_all (xs ++ ys) s ≡ spend_all ys (spend_all xs s)
spent_through [] ys s = refl
spent_through (x ∷ xs) ys s = spent_through xs ys (spend x s)

met_through : (xs ys : List Event) (t : Accounts) → met_all (xs ++ ys) t ≡ met_all ys (met_all xs t)
met_through xs ys t = ap (λ s. record { all = t.all; lines = t.lines; exchanges = s }) (spent_through xs ys t.exchanges)

-- time steps and events are counted apart
apart : (q : ℕ) (ss : List TimeStep) (es : List Event) (t : Accounts) → entered_all q ss (met_all es t) ≡ met_all es (entered_all q ss t)
apart q [] es t = refl
apart q (s ∷ ss) es t = apart q ss es (entered q s t)

-- the second ones behind the first ones, each with its own events
both_through : (q : ℕ) (ss ts : List TimeStep) (es fs : List Event) (t : Accounts) →
    entered_all q (ss ++ ts) (met_all (es ++ fs) t) ≡ entered_all q ts (met_all fs (entered_all q ss (met_all es t)))
both_through q ss ts es fs t =
    entered_through q ss ts (met_all (es ++ fs) t) ∙ ap (λ t. entered_all q ts (entered_all q ss t)) (met_through es fs t)
    ∙ ap (entered_all q ts) (apart q ss fs (met_all es t))

moments_through : (q : ℕ) (ms ns : List Moment) (t : Accounts) → with_moments q (ms ++ ns) t ≡ with_moments q ns (with_moments q ms t)
moments_through q ms ns t =
    ap (λ ss. entered_all q ss (met_all (flat_map events_at (ms ++ ns)) t)) (flat_map-append steps_of ms ns)
    ∙ ap (λ es. entered_all q (flat_map steps_of ms ++ flat_map steps_of ns) (met_all es t)) (flat_map-append events_at ms ns)
    ∙ both_through q (flat_map steps_of ms) (flat_map steps_of ns) (flat_map events_at ms) (flat_map events_at ns) t

-- ---- the laws of a listener

pub counts_nothing : (a : Meter) → HasCounted a [] a
counts_nothing a = record { schedule = refl; ledger = refl; outer_reads = omega arith }

pub counts_on : (a b c : Meter) (ms ns : List Moment) → HasCounted a ms b → HasCounted b ns c → HasCounted a (ms ++ ns) c
counts_on a b c ms ns h k =
    let xs = flat_map steps_outside ms in
    let ys = flat_map steps_outside ns in
    let r : reads (flat_map steps_outside (ms ++ ns)) ≡ reads xs + reads ys =
    ap reads (flat_map-append steps_outside ms ns) ∙ sum_by-append (λ (s : TimeStep). s.reads) xs ys in
    let i = h.outer_reads in let j = k.outer_reads in
    record {
      schedule = k.schedule ∙ h.schedule;
      ledger = k.ledger ∙ ap (λ q. with_moments q ns (ledger_is b.ledger)) h.schedule ∙ ap (with_moments a.schedule ns) h.ledger
          ∙ sym (moments_through a.schedule ms ns (ledger_is a.ledger));
      outer_reads = omega (arith, r, i, j);
    }
