-- An `if` whose test came out one way, or both.
use Rattle.std.proofs.Common.{◌≡◌, ℕ, ℤ, List, Option, Some, IsSomeAnd, Bool, true, false, Global, Vec, sym, subst, ap, ◌∙◌, if◌then◌else◌}
use Rattle.pram_model.specs.Layout.{width}
use Rattle.pram_meaning.specs.Attempt.{attempt_bounds}
use Rattle.pram_check.specs.Checked.{Checked}
use Rattle.pram_tokens.specs.declared.token.Location.{Location}
use Rattle.pram_names.specs.declared.body.Expression.{Expression}
use Rattle.pram_names.specs.declared.body.Statement.{For, If, Statement}
use Rattle.pram_meaning.specs.Bounded.{evaluated, for_turns, perform, perform_list, tested, then_do}
use Rattle.pram_meaning.specs.Store.{State, seen}
use Rattle.pram_meaning.proofs.Blocks.{block_is, if_is}
use Rattle.abstract_runs.specs.declared.standing.Standing.{Standing}
use Rattle.all_inputs.specs.declared.told.Told.{Told}
use Rattle.abstract_runs.specs.Leads.{Leads}
use Rattle.abstract_runs.specs.Standing.{StandsFor}
use Rattle.abstract_runs.specs.Tests.{ComesTo}
use Rattle.all_inputs.specs.Told.{IsKept}
use Rattle.abstract_runs.proofs.Leading.{leads_then, leads_on, kept_same}

pub if_leads : (p : Checked) (n : ℕ) (here : Location) (s : Statement) (e : Expression) (a b : Vec Statement Global) (Out : Bool → State → Type 0)
    (tested_known : Standing) (mid told : Told) (Q : Unit {0} → State → Type 0) (m : State) → s ≡ If here e a b →
    Leads (λ b s. Out b s × StandsFor tested_known s) mid (tested p n here.line e m) → IsKept mid told →
    ((z : Bool) (s : State) → Out z s → StandsFor tested_known s →
    Leads Q told (if z then perform_list p n a.items s else perform_list p n b.items s)) → Leads Q told (perform p n s m)
if_leads p n here s e a b Out tested_known mid told Q m is leads k next =
    subst (Leads Q told) (sym (ap (λ s. perform p n s m) is ∙ if_is p n here e a b m))
    (leads_then (λ b s. Out b s × StandsFor tested_known s) Q mid told (tested p n here.line e m) _ leads k (λ z s g. next z s g.0 g.1))

module _ (p : Checked) (n : ℕ) (here : Location) (s : Statement) (e : Expression) (a b : Vec Statement Global) (Out : Bool → State → Type 0)
    (tested_known : Standing) (mid told : Told) (Q : Unit {0} → State → Type 0) (m : State) (is : s ≡ If here e a b)
    (leads : Leads (λ b s. Out b s × StandsFor tested_known s) mid (tested p n here.line e m)) (k : IsKept mid told) where
  pub then_leads : ((z : Bool) (s : State) → Out z s → z ≡ true) → ((s : State) → StandsFor tested_known s → Leads Q told (perform_list p n a.items s)) →
      Leads Q told (perform p n s m)
  then_leads come does =
      if_leads p n here s e a b Out tested_known mid told Q m is leads k
      (λ z s out stands. subst (λ z. Leads Q told (if z then perform_list p n a.items s else perform_list p n b.items s)) (sym (come z s out))
      (does s stands))

  pub else_leads : ((z : Bool) (s : State) → Out z s → z ≡ false) → ((s : State) → StandsFor tested_known s → Leads Q told (perform_list p n b.items s)) →
      Leads Q told (perform p n s m)
  else_leads come does =
      if_leads p n here s e a b Out tested_known mid told Q m is leads k
      (λ z s out stands. subst (λ z. Leads Q told (if z then perform_list p n a.items s else perform_list p n b.items s)) (sym (come z s out))
      (does s stands))

  -- both ways, and what is known where they come together
  pub both_leads : (other one_behind other_behind : Standing) (between : Told) (on off : Bool) →
      ((z : Bool) (s : State) → Out z s → ComesTo (seen p s) e z) → ((m : State) → StandsFor tested_known m → StandsFor other m) →
      ((s : State) → StandsFor tested_known s → ComesTo (seen p s) e true →
      Leads (λ u n. (on ≡ true) × StandsFor one_behind n) between (perform_list p n a.items s)) → IsKept between told →
      ((s : State) → StandsFor other s → ComesTo (seen p s) e false →
      Leads (λ u n. (off ≡ true) × StandsFor other_behind n) told (perform_list p n b.items s)) →
      (on ≡ true → (m : State) → StandsFor one_behind m → Q tt m) → (off ≡ true → (m : State) → StandsFor other_behind m → Q tt m) →
      Leads Q told (perform p n s m)
  both_leads other one_behind other_behind between on off comes copy does kept other_does left right =
      if_leads p n here s e a b Out tested_known mid told Q m is leads k (λ z s out stands. by z s (comes z s out) stands)
    where
      by : (z : Bool) (s : State) → ComesTo (seen p s) e z → StandsFor tested_known s →
          Leads Q told (if z then perform_list p n a.items s else perform_list p n b.items s)
      by true s come stands =
          leads_on (λ u n. (on ≡ true) × StandsFor one_behind n) Q between told (perform_list p n a.items s) (does s stands come) kept
          (λ u m g. left g.0 m g.1)
      by false s come stands =
          leads_on (λ u n. (off ≡ true) × StandsFor other_behind n) Q told told (perform_list p n b.items s)
          (other_does s (copy s stands) come) (kept_same told) (λ u m g. right g.0 m g.1)

-- a `for`, behind its bounds
pub for_leads : (p : Checked) (n : ℕ) (here : Location) (x : ℕ) (s : Statement) (e f : Expression) (body : Vec Statement Global)
    (P : ℤ × ℤ → Type 0) (known : Standing) (mid told : Told) (Q : Unit {0} → State → Type 0) (m : State) → s ≡ For here x e f body →
    Leads (λ r s. P r × StandsFor known s) mid (evaluated n here.line (λ m. attempt_bounds (seen p m) e f) m) → IsKept mid told →
    ((r : ℤ × ℤ) (s : State) → P r → StandsFor known s → Leads Q told (for_turns n (width r.0 r.1) x r.0 (perform_list p n body.items) s)) →
    Leads Q told (perform p n s m)
for_leads p n here x s e f body P known mid told Q m is leads k next =
    subst (Leads Q told) (sym (ap (λ s. perform p n s m) is
    ∙ ap (λ b. then_do (evaluated n here.line (λ m. attempt_bounds (seen p m) e f) m) (λ r. for_turns n (width r.0 r.1) x r.0 b))
    (block_is p n body)))
    (leads_then (λ r s. P r × StandsFor known s) Q mid told (evaluated n here.line (λ m. attempt_bounds (seen p m) e f) m) _ leads k
    (λ r s g. next r s g.0 g.1))

-- a pair of numbers that are known
pub pair_as : (found : Option (ℤ × ℤ)) (q r : ℤ × ℤ) → found ≡ Some q → IsSomeAnd found (λ (q : ℤ × ℤ). r ≡ (q.0, q.1)) → r ≡ (q.0, q.1)
pair_as found q r is h = subst (λ f. IsSomeAnd f (λ (q : ℤ × ℤ). r ≡ (q.0, q.1))) is h

pub for_at : (p : Checked) (n x : ℕ) (body : List Statement) (Q : Unit {0} → State → Type 0) (told : Told) (r : ℤ × ℤ) (a b : ℤ)
    (s : State) →
    r ≡ (a, b) → Leads Q told (for_turns n (width a b) x a (perform_list p n body) s) →
    Leads Q told (for_turns n (width r.0 r.1) x r.0 (perform_list p n body) s)
for_at p n x body Q told r a b s is h =
    subst (λ (r : ℤ × ℤ). Leads Q told (for_turns n (width r.0 r.1) x r.0 (perform_list p n body) s)) (sym is) h
