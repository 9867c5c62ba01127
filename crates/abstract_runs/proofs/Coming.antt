-- Runs on their way: where a run comes to is told, or what is left of it comes from a state that is known.
use Rattle.std.proofs.Common.{◌≡◌, ◌⊎◌, inl, inr, ℕ, ◌+◌, ◌<◌, ◌≤◌, List, ◌∷◌, Bool, true, false, refl, ap, sym, subst, ◌∙◌}
use Rattle.std.proofs.Common.{length, drop, get_or}
use Rattle.std.proofs.lemmas.List.{drop_more, drop_all}
use Rattle.pram_check.specs.Checked.{Checked}
use Rattle.pram_names.specs.declared.body.Statement.{Statement}
use Rattle.pram_meaning.specs.Bounded.{Behaviour, Done, Goes, Stops, Reaches, then_do, perform, perform_list}
use Rattle.pram_meaning.specs.Store.{State}
use Rattle.abstract_runs.specs.declared.standing.Standing.{Standing}
use Rattle.all_inputs.specs.declared.told.Told.{Told}
use Rattle.abstract_runs.specs.Leads.{Leads}
use Rattle.abstract_runs.specs.Standing.{StandsFor}
use Rattle.all_inputs.specs.Told.{IsKept}
use Rattle.abstract_runs.proofs.Leading.{leads_then, leads_on, kept_same}

-- it goes on as the rest does from such a state
pub record GoesOn (P : State → Type 0) (rest : State → Done) (b : Done) : Type 0 where
  pub state : State
  pub same : b ≡ rest state
  pub stands : P state

-- it goes on so, or has come to what is told
abbrev pub Comes : (State → Type 0) → Told → (State → Done) → Done → Type 0
Comes P told rest b = Leads (λ u n. ⊥) told b ⊎ GoesOn P rest b

stopped_on : (Q : Unit {0} → State → Type 0) (told more : Told) (b : Done) → Leads (λ u n. ⊥) told b → IsKept told more → Leads Q more b
stopped_on Q told more b h k = leads_on (λ u n. ⊥) Q told more b h k (λ u n e. absurd e)

-- where it comes to is where the rest does
pub comes_leads : (P : State → Type 0) (Q : Unit {0} → State → Type 0) (told more : Told) (rest : State → Done) (b : Done) →
    Comes P told rest b → IsKept told more → ((m : State) → P m → Leads Q more (rest m)) → Leads Q more b
comes_leads P Q told more rest b (inl h) k g = stopped_on Q told more b h k
comes_leads P Q told more rest b (inr h) k g = subst (Leads Q more) (sym h.same) (g h.state h.stands)

pub comes_on : (P R : State → Type 0) (told more : Told) (rest next : State → Done) (b : Done) → Comes P told rest b → IsKept told more →
    ((m : State) → P m → Comes R more next (rest m)) → Comes R more next b
comes_on P R told more rest next b (inl h) k g = inl (stopped_on (λ u n. ⊥) told more b h k)
comes_on P R told more rest next b (inr h) k g = subst (Comes R more next) (sym h.same) (g h.state h.stands)

-- first the one, then the rest
pub then_comes : {A : Type 0} (Q : A → State → Type 0) (R : State → Type 0) (told more : Told) (next : State → Done) (b : Behaviour A)
    (f : A → State → Done) → Leads Q told b → IsKept told more → ((a : A) (m : State) → Q a m → Comes R more next (f a m)) →
    Comes R more next (then_do b f)
then_comes Q R told more next (Goes a m) f h k g = g a m h
then_comes Q R told more next (Stops fault output) f h k g = inl (k.faults fault.kind fault.line h)
then_comes Q R told more next (Reaches output) f h k g = inl (k.goes_on h)

-- ---- a block

module _ (p : Checked) (n : ℕ) (items : List Statement) where
  abbrev pub InBlock : ℕ → Standing → Standing → Told → Type 0
  InBlock i before known told =
      (m : State) → StandsFor before m → Comes (StandsFor known) told (perform_list p n (drop i items)) (perform_list p n items m)

  pub block_starts : (known : Standing) (told : Told) → InBlock 0 known known told
  block_starts known told m h = inr (record { state = m; same = refl; stands = h })

  opened : (i : ℕ) (s : Statement) (m : State) → i < length items → s ≡ get_or items i s →
      perform_list p n (drop i items) m ≡ then_do (perform p n s m) (λ u. perform_list p n (drop (i + 1) items))
  opened i s m h is = ap (λ xs. perform_list p n xs m) (drop_more items i s h ∙ ap (λ x. x ∷ drop (i + 1) items) (sym is))

  pub block_goes : (i : ℕ) (s : Statement) (before known new : Standing) (told more : Told) (on : Bool) → InBlock i before known told →
      i < length items → s ≡ get_or items i s → IsKept told more →
      ((m : State) → StandsFor known m → Leads (λ u n. (on ≡ true) × StandsFor new n) more (perform p n s m)) →
      InBlock (i + 1) before new more
  block_goes i s before known new told more on b h is k leads = λ m stands.
      comes_on (StandsFor known) (StandsFor new) told more (perform_list p n (drop i items)) (perform_list p n (drop (i + 1) items))
      (perform_list p n items m) (b m stands) k
      (λ m here. subst (Comes (StandsFor new) more (perform_list p n (drop (i + 1) items))) (sym (opened i s m h is))
      (then_comes (λ u n. (on ≡ true) × StandsFor new n) (StandsFor new) more more (perform_list p n (drop (i + 1) items))
      (perform p n s m) _
      (leads m here) (kept_same more) (λ u m g. inr (record { state = m; same = refl; stands = g.1 }))))

  -- a statement behind which no run goes on
  pub block_stops : (i : ℕ) (s : Statement) (before known new : Standing) (told more : Told) (on : Bool) (Q : Unit {0} → State → Type 0) →
      InBlock i before known told → i < length items → s ≡ get_or items i s → IsKept told more →
      ((m : State) → StandsFor known m → Leads (λ u n. (on ≡ true) × StandsFor new n) more (perform p n s m)) → on ≡ false →
      (m : State) → StandsFor before m → Leads Q more (perform_list p n items m)
  block_stops i s before known new told more on Q b h is k leads none = λ m stands.
      comes_leads (StandsFor known) Q told more (perform_list p n (drop i items)) (perform_list p n items m) (b m stands) k
      (λ m here. subst (Leads Q more) (sym (opened i s m h is))
      (leads_then (λ u n. (on ≡ true) × StandsFor new n) Q more more (perform p n s m) _ (leads m here) (kept_same more)
      (λ u m g. absurd (cc (sym none ∙ g.0)))))

  pub block_ends : (i : ℕ) (before known : Standing) (told : Told) → InBlock i before known told → length items ≤ i →
      (m : State) → StandsFor before m → Leads (λ u n. (true ≡ true) × StandsFor known n) told (perform_list p n items m)
  block_ends i before known told b past = λ m stands.
      comes_leads (StandsFor known) (λ u n. (true ≡ true) × StandsFor known n) told told (perform_list p n (drop i items))
      (perform_list p n items m) (b m stands) (kept_same told)
      (λ m here. subst (λ xs. Leads (λ u n. (true ≡ true) × StandsFor known n) told (perform_list p n xs m)) (sym (drop_all i items past))
      (refl, here))

-- the same of equal lists
pub at_items : (p : Checked) (n : ℕ) (before : Standing) (Q : Unit {0} → State → Type 0) (told : Told) (xs ys : List Statement) → xs ≡ ys →
    ((m : State) → StandsFor before m → Leads Q told (perform_list p n xs m)) → (m : State) → StandsFor before m →
    Leads Q told (perform_list p n ys m)
at_items p n before Q told xs ys same h = subst (λ xs. (m : State) → StandsFor before m → Leads Q told (perform_list p n xs m)) same h
