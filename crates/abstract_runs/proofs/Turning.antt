-- A loop on its way, each of whose tests came out one way.
use Rattle.std.proofs.Common.{◌≡◌, inr, ℕ, zero, suc, ◌+◌, ◌<◌, ◌≤◌, List, Bool, true, false, refl, sym, subst, ◌∙◌, arith}
use Rattle.pram_check.specs.Checked.{Checked}
use Rattle.pram_names.specs.declared.body.Expression.{Expression}
use Rattle.pram_names.specs.declared.body.Statement.{Statement}
use Rattle.pram_meaning.specs.Bounded.{Done, perform_list, tested, turns}
use Rattle.pram_meaning.specs.Store.{State, seen}
use Rattle.abstract_runs.specs.declared.standing.Standing.{Standing}
use Rattle.all_inputs.specs.declared.told.Told.{Told}
use Rattle.abstract_runs.specs.Leads.{Leads}
use Rattle.abstract_runs.specs.Open.{after_test}
use Rattle.abstract_runs.specs.Standing.{StandsFor}
use Rattle.abstract_runs.specs.Tests.{ComesTo}
use Rattle.all_inputs.specs.Told.{IsKept}
use Rattle.abstract_runs.proofs.Coming.{Comes, comes_leads, comes_on, then_comes}
use Rattle.abstract_runs.proofs.Leading.{leads_then, kept_same, kept_then}

module _ (p : Checked) (n line : ℕ) (e : Expression) (body : List Statement) where
  abbrev pub left_of : ℕ → State → Done
  left_of k = turns k (tested p n line e) (perform_list p n body)

  pub record InTurns (before known : Standing) (told : Told) : Type 0 where
    pub left : ℕ
    pub enough : n < left + known.least
    pub comes : (m : State) → StandsFor before m → Comes (StandsFor known) told (left_of left) (left_of (n + 1) m)

  pub turns_start : (known : Standing) (told : Told) → InTurns known known told
  turns_start known told = record {
    left = n + 1;
    enough = omega arith;
    comes = λ m h. inr (record { state = m; same = refl; stands = h });
  }

  abbrev pub behind : ℕ → Bool → State → Done
  behind = after_test p n line e body

  -- a test, from where it may be that no turn is left: then the bound was told
  pub test_leads : (before known tested_known : Standing) (told more : Told) (Out : Bool → State → Type 0) (Q : Unit {0} → State → Type 0) →
      InTurns before known told → IsKept told more → (n ≤ known.most → more.may_go_on ≡ true) →
      ((m : State) → StandsFor known m → Leads (λ b s. Out b s × StandsFor tested_known s) more (tested p n line e m)) →
      ((k : ℕ) (b : Bool) (m : State) → Out b m → StandsFor tested_known m → Leads Q more (behind k b m)) →
      (m : State) → StandsFor before m → Leads Q more (left_of (n + 1) m)
  test_leads before known tested_known told more Out Q i k bound leads next m h =
      comes_leads (StandsFor known) Q told more (left_of i.left) (left_of (n + 1) m) (i.comes m h) k (λ m here. by i.left i.enough m here)
    where
      by : (left : ℕ) → n < left + known.least → (m : State) → StandsFor known m → Leads Q more (left_of left m)
      by zero enough m here =
          let l = here.known_as.least in let o = here.known_as.most in bound (omega (arith, enough, l, o))
      by (suc left) enough m here =
          leads_then (λ b s. Out b s × StandsFor tested_known s) Q more more (tested p n line e m) (behind left) (leads m here) (kept_same more)
          (λ b s g. next left b s g.0 g.1)

  -- one turn more
  pub turn_goes : (before known tested_known new : Standing) (told mid more : Told) (Out : Bool → State → Type 0) (on : Bool) → InTurns before known told →
      known.least < tested_known.least → tested_known.least ≤ new.least → known.least < n → IsKept told mid → IsKept mid more →
      ((m : State) → StandsFor known m → Leads (λ b s. Out b s × StandsFor tested_known s) mid (tested p n line e m)) →
      ((b : Bool) (m : State) → Out b m → b ≡ true) →
      ((m : State) → StandsFor tested_known m → Leads (λ u s. (on ≡ true) × StandsFor new s) more (perform_list p n body m)) →
      InTurns before new more
  turn_goes before known tested_known new told mid more Out on i rises stays room k l leads come does = by i.left i.enough i.comes
    where
      by : (left : ℕ) → n < left + known.least → ((m : State) → StandsFor before m → Comes (StandsFor known) told (left_of left) (left_of (n + 1) m)) →
          InTurns before new more
      by zero enough comes = absurd (omega (arith, enough, room))
      by (suc left) enough comes = record {
        left = left;
        enough = omega (arith, enough, rises, stays);
        comes = λ m h. comes_on (StandsFor known) (StandsFor new) told more (left_of (suc left)) (left_of left) (left_of (n + 1) m) (comes m h)
            (kept_then told mid more k l)
            (λ m here. then_comes (λ b s. Out b s × StandsFor tested_known s) (StandsFor new) mid more (left_of left) (tested p n line e m)
            (behind left) (leads m here) l
            (λ b s g. subst (λ b. Comes (StandsFor new) more (left_of left) (behind left b s)) (sym (come b s g.0))
            (then_comes (λ u s. (on ≡ true) × StandsFor new s) (StandsFor new) more more (left_of left) (perform_list p n body s) (λ u. left_of left)
            (does s g.1) (kept_same more) (λ u s f. inr (record { state = s; same = refl; stands = f.1 })))));
      }

  -- a test that is false ends the loop
  pub turns_end : (Q : Unit {0} → State → Type 0) (told : Told) (k : ℕ) (b : Bool) (m : State) → b ≡ false → Q tt m →
      Leads Q told (behind k b m)
  turns_end Q told k b m out q = subst (λ b. Leads Q told (behind k b m)) (sym out) q

  -- a body behind which no run goes on
  pub turns_stop : (Q : Unit {0} → State → Type 0) (new : Standing) (told : Told) (on : Bool) (k : ℕ) (b : Bool) (m : State) →
      b ≡ true → Leads (λ u s. (on ≡ true) × StandsFor new s) told (perform_list p n body m) → on ≡ false → Leads Q told (behind k b m)
  turns_stop Q new told on k b m out does none =
      subst (λ b. Leads Q told (behind k b m)) (sym out)
      (leads_then (λ u s. (on ≡ true) × StandsFor new s) Q told told (perform_list p n body m) (λ u. left_of k) does (kept_same told)
      (λ u s g. absurd (cc (sym none ∙ g.0))))

  -- a loop that has come to rest: each turn leads back to what is known behind its test, and what is left where that is false is known
  module _ (rest inside back end : Standing) (mid told : Told) (Out : Bool → State → Type 0) (on out : Bool)
      (does : (m : State) → StandsFor rest m → ComesTo (seen p m) e true →
      Leads (λ u s. (on ≡ true) × StandsFor inside s) mid (perform_list p n body m))
      (leads : (m : State) → StandsFor inside m → Leads (λ b s. Out b s × StandsFor back s) told (tested p n line e m))
      (comes : (b : Bool) (m : State) → Out b m → ComesTo (seen p m) e b)
      (returns : (b : Bool) (m : State) → Out b m → StandsFor back m → StandsFor rest m)
      (leaves : (m : State) → StandsFor rest m → ComesTo (seen p m) e false → (out ≡ true) × StandsFor end m)
      (goes_on : told.may_go_on ≡ true) (k : IsKept mid told) where
    pub rest_leads : (left : ℕ) (b : Bool) (m : State) → StandsFor rest m → ComesTo (seen p m) e b →
        Leads (λ u s. (out ≡ true) × StandsFor end s) told (behind left b m)
    rest_leads left false m h c = leaves m h c
    rest_leads zero true m h c =
        leads_then (λ u s. (on ≡ true) × StandsFor inside s) _ mid told (perform_list p n body m) (λ u. left_of zero) (does m h c) k
        (λ u s g. goes_on)
    rest_leads (suc left) true m h c =
        leads_then (λ u s. (on ≡ true) × StandsFor inside s) _ mid told (perform_list p n body m) (λ u. left_of (suc left)) (does m h c) k
        (λ u s g. leads_then (λ b s. Out b s × StandsFor back s) _ told told (tested p n line e s) (behind left) (leads s g.1) (kept_same told)
        (λ b s f. rest_leads left b s (returns b s f.0 f.1) (comes b s f.0)))

  -- a loop whose body no run leaves
  module _ (rest inside end : Standing) (told : Told) (on out : Bool)
      (does : (m : State) → StandsFor rest m → ComesTo (seen p m) e true →
      Leads (λ u s. (on ≡ true) × StandsFor inside s) told (perform_list p n body m)) (none : on ≡ false)
      (leaves : (m : State) → StandsFor rest m → ComesTo (seen p m) e false → (out ≡ true) × StandsFor end m) where
    pub held_leads : (left : ℕ) (b : Bool) (m : State) → StandsFor rest m → ComesTo (seen p m) e b →
        Leads (λ u s. (out ≡ true) × StandsFor end s) told (behind left b m)
    held_leads left false m h c = leaves m h c
    held_leads left true m h c =
        leads_then (λ u s. (on ≡ true) × StandsFor inside s) _ told told (perform_list p n body m) (λ u. left_of left) (does m h c)
        (kept_same told) (λ u s g. absurd (cc (sym none ∙ g.0)))
