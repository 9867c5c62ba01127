-- Runs of a set on their way: where a run comes to is told, or what is left of it comes from a state and a set that are known.
use Rattle.std.proofs.Common.{◌≡◌, ◌⊎◌, inl, inr, ℕ, List, sym, subst}
use Rattle.pram_meaning.specs.Bounded.{Behaviour, Done, Goes, Stops, Reaches, then_do}
use Rattle.pram_meaning.specs.Store.{State}
use Rattle.all_inputs.specs.declared.told.Told.{Told}
use Rattle.abstract_runs.specs.Leads.{Leads}
use Rattle.all_inputs.specs.Told.{IsKept}
use Rattle.abstract_runs.proofs.Leading.{leads_on}

-- it goes on as the rest does from such a set and state
pub record GoesOnWith (P : List ℕ → State → Type 0) (rest : List ℕ → State → Done) (b : Done) : Type 0 where
  pub members : List ℕ
  pub state : State
  pub same : b ≡ rest members state
  pub stands : P members state

abbrev pub ComesWith : (List ℕ → State → Type 0) → Told → (List ℕ → State → Done) → Done → Type 0
ComesWith P told rest b = Leads (λ u n. ⊥) told b ⊎ GoesOnWith P rest b

stopped_on : (Q : Unit {0} → State → Type 0) (told more : Told) (b : Done) → Leads (λ u n. ⊥) told b → IsKept told more → Leads Q more b
stopped_on Q told more b h k = leads_on (λ u n. ⊥) Q told more b h k (λ u n e. absurd e)

pub with_leads : (P : List ℕ → State → Type 0) (Q : Unit {0} → State → Type 0) (told more : Told) (rest : List ℕ → State → Done) (b : Done) →
    ComesWith P told rest b → IsKept told more → ((vs : List ℕ) (m : State) → P vs m → Leads Q more (rest vs m)) → Leads Q more b
with_leads P Q told more rest b (inl h) k g = stopped_on Q told more b h k
with_leads P Q told more rest b (inr h) k g = subst (Leads Q more) (sym h.same) (g h.members h.state h.stands)

pub with_on : (P R : List ℕ → State → Type 0) (told more : Told) (rest next : List ℕ → State → Done) (b : Done) → ComesWith P told rest b →
    IsKept told more → ((vs : List ℕ) (m : State) → P vs m → ComesWith R more next (rest vs m)) → ComesWith R more next b
with_on P R told more rest next b (inl h) k g = inl (stopped_on (λ u n. ⊥) told more b h k)
with_on P R told more rest next b (inr h) k g = subst (ComesWith R more next) (sym h.same) (g h.members h.state h.stands)

pub then_with : {A : Type 0} (Q : A → State → Type 0) (R : List ℕ → State → Type 0) (told more : Told) (next : List ℕ → State → Done)
    (b : Behaviour A) (f : A → State → Done) → Leads Q told b → IsKept told more →
    ((a : A) (m : State) → Q a m → ComesWith R more next (f a m)) → ComesWith R more next (then_do b f)
then_with Q R told more next (Goes a m) f h k g = g a m h
then_with Q R told more next (Stops fault output) f h k g = inl (k.faults fault.kind fault.line h)
then_with Q R told more next (Reaches output) f h k g = inl (k.goes_on h)
