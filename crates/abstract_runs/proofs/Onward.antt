-- What is so of a run that goes on.
use Rattle.std.proofs.Common.{◌≡◌, refl}
use Rattle.pram_meaning.specs.Bounded.{Behaviour, Done, Goes, Stops, Reaches, then_do}
use Rattle.pram_meaning.specs.Store.{State}
use Rattle.all_inputs.specs.declared.told.Told.{Told}
use Rattle.abstract_runs.specs.Leads.{Leads}
use Rattle.abstract_runs.specs.Onward.{Onward}

-- first the one, then the other
pub onward_then : {A B : Type 0} (P : A → State → Type 0) (Q : B → State → Type 0) (b : Behaviour A) (f : A → State → Behaviour B) →
    Onward P b → ((a : A) (m : State) → P a m → Onward Q (f a m)) → Onward Q (then_do b f)
onward_then P Q (Goes a m) f h g = g a m h
onward_then P Q (Stops fault output) f h g = tt
onward_then P Q (Reaches output) f h g = tt

pub onward_on : {A : Type 0} (P Q : A → State → Type 0) (b : Behaviour A) → Onward P b → ((a : A) (m : State) → P a m → Q a m) → Onward Q b
onward_on P Q (Goes a m) h g = g a m h
onward_on P Q (Stops fault output) h g = tt
onward_on P Q (Reaches output) h g = tt

-- where it comes to, and how
pub leads_onward : {A : Type 0} (P Q : A → State → Type 0) (told : Told) (b : Behaviour A) → Leads P told b → Onward Q b →
    Leads (λ a m. P a m × Q a m) told b
leads_onward P Q told (Goes a m) h g = (h, g)
leads_onward P Q told (Stops fault output) h g = h
leads_onward P Q told (Reaches output) h g = h

-- it goes on as it does
pub onward_self : (b : Done) → Onward (λ u m. b ≡ Goes tt m) b
onward_self (Goes u m) = refl
onward_self (Stops fault output) = tt
onward_self (Reaches output) = tt
