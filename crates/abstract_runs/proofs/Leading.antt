-- Where runs come to, step by step.
use Rattle.std.proofs.Common.{◌≡◌, ℕ, ℤ, ◌∙◌, true, [], length, refl, None}
use Rattle.pram_check.specs.Checked.{Checked}
use Rattle.pram_names.specs.declared.body.Expression.{Expression}
use Rattle.pram_values.specs.declared.kind.Kind.{Kind}
use Rattle.pram_meaning.specs.Attempt.{Attempt, Gives, Fails, attempt}
use Rattle.pram_meaning.specs.Bounded.{Behaviour, Goes, Stops, Reaches, then_do, valued, counted, evaluated, found}
use Rattle.pram_meaning.specs.Store.{State, seen}
use Rattle.pram_meaning.specs.Together.{alone}
use Rattle.abstract_runs.specs.declared.findings.Findings.{Findings}
use Rattle.abstract_runs.specs.declared.standing.Standing.{Standing}
use Rattle.all_inputs.specs.declared.told.Told.{Told}
use Rattle.all_inputs.specs.declared.faults.Faults.{Faults}
use Rattle.all_inputs.specs.Faulting.{May}
use Rattle.abstract_runs.specs.Finding.{MayBy}
use Rattle.abstract_runs.specs.Leads.{Leads}
use Rattle.abstract_runs.specs.Standing.{IsKnownAs, StandsFor}
use Rattle.all_inputs.specs.Told.{MayAt, IsKept}
use Rattle.abstract_runs.specs.Tests.{IsValueOf}
use Rattle.abstract_runs.specs.Tried.{IsTried}
use Rattle.abstract_runs.proofs.Found.{IsTold, may_within}
use Rattle.abstract_runs.proofs.Trails as trails

-- what was found is told, at any position
pub told_all : (f : Findings) (all : Faults) (line : ℕ) (told : Told) → IsTold f None all →
    ((kind : Kind) → May kind all → MayAt kind line told) →
    (kind : Kind) (at : ℕ) → MayBy kind at f → MayAt kind line told
told_all f all line told is noted kind at may = noted kind (may_within f None all kind at is may tt)

-- first the one, then the other
pub leads_then : {A B : Type 0} (P : A → State → Type 0) (Q : B → State → Type 0) (told more : Told) (b : Behaviour A)
    (f : A → State → Behaviour B) → Leads P told b → IsKept told more → ((a : A) (m : State) → P a m → Leads Q more (f a m)) →
    Leads Q more (then_do b f)
leads_then P Q told more (Goes a m) f h k g = g a m h
leads_then P Q told more (Stops fault output) f h k g = k.faults fault.kind fault.line h
leads_then P Q told more (Reaches output) f h k g = k.goes_on h

pub leads_on : {A : Type 0} (P Q : A → State → Type 0) (told more : Told) (b : Behaviour A) → Leads P told b → IsKept told more →
    ((a : A) (m : State) → P a m → Q a m) → Leads Q more b
leads_on P Q told more (Goes a m) h k g = g a m h
leads_on P Q told more (Stops fault output) h k g = k.faults fault.kind fault.line h
leads_on P Q told more (Reaches output) h k g = k.goes_on h

pub kept_same : (told : Told) → IsKept told told
kept_same told = record { faults = λ kind line may. may; goes_on = λ on. on }

pub kept_then : (a b c : Told) → IsKept a b → IsKept b c → IsKept a c
kept_then a b c h k = record {
  faults = λ kind line may. k.faults kind line (h.faults kind line may);
  goes_on = λ on. k.goes_on (h.goes_on on);
}

-- the value or the fault of an attempt that is tried
pub leads_valued : {A : Type 0} (P : A → Type 0) (Q : A → State → Type 0) (rs : trails.Reaches) (faults : Findings) (told : Told) (line : ℕ)
    (a : Attempt A) (m : State) → IsTried P rs faults a → ((kind : Kind) (at : ℕ) → MayBy kind at faults → MayAt kind line told) →
    ((x : A) → P x → Q x m) → Leads Q told (valued (alone line a) m)
leads_valued P Q rs faults told line (Gives t x) m h may g = g x h.0
leads_valued P Q rs faults told line (Fails t kind) m h may g = may kind (length t) h.1

-- a statement that begins, and then its attempt
pub leads_evaluated : {A : Type 0} (P : A → Type 0) (rs : trails.Reaches) (faults : Findings) (known : Standing) (began all : Told)
    (n line : ℕ)
    (a : State → Attempt A) (m : State) →
    Leads (λ u s. (true ≡ true) × IsKnownAs known s × (s.team ≡ m.team)) began (counted n m) → IsKept began all →
    ((s : State) → IsKnownAs known s → IsTried P rs faults (a s)) → ((kind : Kind) (at : ℕ) → MayBy kind at faults → MayAt kind line all) →
    m.team ≡ [] →
    Leads (λ v s. P v × StandsFor known s) all (evaluated n line a m)
leads_evaluated P rs faults known began all n line a m h k tried may none =
    leads_then _ (λ v s. P v × StandsFor known s) began all (counted n m) _ h k
    (λ u s g. leads_valued P (λ v s. P v × StandsFor known s) rs faults all line (a s) s (tried s g.1) may
    (λ x p. (p, record { known_as = g.1; team = g.2 ∙ none })))

-- the same, with what the attempt gave
pub leads_found : (p : Checked) (e : Expression) (P : ℤ → Type 0) (rs : trails.Reaches) (faults : Findings) (known : Standing)
    (began all : Told) (n line : ℕ) (m : State) →
    Leads (λ u s. (true ≡ true) × IsKnownAs known s × (s.team ≡ m.team)) began (counted n m) → IsKept began all →
    ((s : State) → IsKnownAs known s → IsTried P rs faults (attempt (seen p s) e [])) →
    ((kind : Kind) (at : ℕ) → MayBy kind at faults → MayAt kind line all) → m.team ≡ [] →
    Leads (λ v s. (P v × IsValueOf (seen p s) e v) × StandsFor known s) all (found p n line e m)
leads_found p e P rs faults known began all n line m h k tried may none =
    leads_then _ (λ v s. (P v × IsValueOf (seen p s) e v) × StandsFor known s) began all (counted n m) _ h k
    (λ u s g. by s (attempt (seen p s) e []) refl (tried s g.1) (record { known_as = g.1; team = g.2 ∙ none }))
  where
    by : (s : State) (a : Attempt ℤ) → attempt (seen p s) e [] ≡ a → IsTried P rs faults a → StandsFor known s →
        Leads (λ v s. (P v × IsValueOf (seen p s) e v) × StandsFor known s) all (valued (alone line a) s)
    by s (Gives t v) is tried stands = ((tried.0, record { from = []; behind = t; gives = is }), stands)
    by s (Fails t kind) is tried stands = may kind (length t) tried.1

pub leads_kept : {A : Type 0} (Q : A → State → Type 0) (told more : Told) (b : Behaviour A) → Leads Q told b → IsKept told more →
    Leads Q more b
leads_kept Q told more b h k = leads_on Q Q told more b h k (λ a m q. q)
