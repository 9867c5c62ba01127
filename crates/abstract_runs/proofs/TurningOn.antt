-- A loop of a set on its way.
use Rattle.std.proofs.Common.{◌≡◌, ◌≢◌, inr, ℕ, zero, suc, ◌+◌, ◌<◌, ◌≤◌, List, [], ◌∷◌, Bool, true, false, refl, sym, subst, ◌∙◌, arith, map}
use Rattle.std.proofs.Common.{Option, Vec, Global}
use Rattle.pram_check.specs.Checked.{Checked}
use Rattle.pram_names.specs.declared.body.Expression.{Expression}
use Rattle.pram_names.specs.declared.body.Step.{Step}
use Rattle.pram_meaning.specs.Bounded.{Done, Goes, perform_list_on, tested_on, turns_on, unless_none}
use Rattle.pram_meaning.specs.Conflict.{Part}
use Rattle.pram_meaning.specs.Store.{State}
use Rattle.pram_meaning.specs.Together.{those}
use Rattle.abstract_runs.specs.declared.active.Active.{Active}
use Rattle.abstract_runs.specs.declared.row.Row.{Row}
use Rattle.abstract_runs.specs.declared.standing.Member.{Member}
use Rattle.abstract_runs.specs.declared.standing.Standing.{Standing}
use Rattle.all_inputs.specs.declared.told.Told.{Told}
use Rattle.abstract_runs.specs.Inner.{AreWay}
use Rattle.abstract_runs.specs.Leads.{Leads}
use Rattle.abstract_runs.specs.Open.{StayActive, after_test_on}
use Rattle.abstract_runs.specs.Rows.{AreActive}
use Rattle.abstract_runs.specs.Standing.{StandsWith}
use Rattle.all_inputs.specs.Told.{IsKept}
use Rattle.abstract_runs.proofs.ComingOn.{ComesWith, with_leads, with_on, then_with}
use Rattle.abstract_runs.proofs.Leading.{leads_then, kept_same, kept_then}
use Rattle.abstract_runs.proofs.Made.{tested_way}
use Rattle.abstract_runs.proofs.Onward.{leads_onward}
use Rattle.abstract_runs.proofs.Sets.{IsFound}

-- a set that isn't empty goes on
pub unless_some : (P : Done → Type 0) (vs : List ℕ) (a b : Done) → vs ≢ [] → P b → P (unless_none vs a b)
unless_some P [] a b some h = absurd (some refl)
unless_some P (v ∷ vs) a b some h = h

pub unless_empty : (P : Done → Type 0) (vs : List ℕ) (a b : Done) → vs ≡ [] → P a → P (unless_none vs a b)
unless_empty P [] a b none h = h
unless_empty P (v ∷ vs) a b none h = absurd (cc (none))

module _ (p : Checked) (n line : ℕ) (e : Expression) (body : List Step) where
  abbrev pub left_of : ℕ → List ℕ → State → Done
  left_of k = turns_on k (tested_on p n line e) (perform_list_on p n body)

  abbrev pub Stands : Standing → List Member → List Active → List ℕ → State → Type 0
  Stands known team active vs m = StandsWith known team m × AreActive active vs

  pub record InTurnsOn (before : Standing) (first : List Member) (start : List Active) (known : Standing) (team : List Member)
      (active : List Active) (told : Told) : Type 0 where
    pub left : ℕ
    pub enough : n < left + known.least
    pub comes : (m : State) (vs : List ℕ) → StandsWith before first m → AreActive start vs →
        ComesWith (Stands known team active) told (left_of left) (left_of (n + 1) vs m)

  pub turns_start : (known : Standing) (team : List Member) (start active : List Active) (told : Told) → active ≡ start →
      InTurnsOn known team start known team active told
  turns_start known team start active told same = record {
    left = n + 1;
    enough = omega arith;
    comes = λ m vs h act. inr (record { members = vs; state = m; same = refl; stands = (h, subst (λ a. AreActive a vs) (sym same) act) });
  }

  -- what is known behind a test, and of those of whom it is true
  abbrev pub Tests : Option (Vec Row Global) → Standing → List Member → List ℕ → List Part → State → Type 0
  Tests found known team vs xs m = (IsFound p found vs xs × StandsWith known team m) × AreWay p e true (those true xs) m

  comes_out : (found : Option (Vec Row Global)) (known : Standing) (team : List Member) (vs : List ℕ) (m : State) (told : Told) →
      Leads (λ xs s. IsFound p found vs xs × StandsWith known team s) told (tested_on p n line e vs m) →
      Leads (Tests found known team vs) told (tested_on p n line e vs m)
  comes_out found known team vs m told h =
      leads_onward (λ xs s. IsFound p found vs xs × StandsWith known team s) (λ xs s. AreWay p e true (those true xs) s) told
      (tested_on p n line e vs m) h (tested_way p n line e true vs m)

  abbrev pub behind : ℕ → List ℕ → State → Done
  behind = after_test_on p n line e body

  -- the test, behind which it is known how it goes on
  module _ (before : Standing) (first : List Member) (start : List Active) (known tested_known : Standing) (team : List Member)
      (active : List Active) (told mid more : Told) (found : Option (Vec Row Global)) (i : InTurnsOn before first start known team active told)
      (k : IsKept told mid) (l : IsKept mid more) (bound : n ≤ known.most → mid.may_go_on ≡ true)
      (leads : (m : State) (vs : List ℕ) → StandsWith known team m → AreActive active vs →
      Leads (λ xs s. IsFound p found vs xs × StandsWith tested_known team s) mid (tested_on p n line e vs m)) where
    pub test_leads : (Q : Unit {0} → State → Type 0) →
        ((k : ℕ) (vs : List ℕ) (xs : List Part) (m : State) → AreActive active vs → IsFound p found vs xs → StandsWith tested_known team m →
        AreWay p e true (those true xs) m → Leads Q more (behind k (those true xs) m)) →
        (m : State) (vs : List ℕ) → StandsWith before first m → AreActive start vs → Leads Q more (left_of (n + 1) vs m)
    test_leads Q next m vs h act =
        with_leads (Stands known team active) Q told more (left_of i.left) (left_of (n + 1) vs m) (i.comes m vs h act) (kept_then told mid more k l)
        (λ vs m here. by i.left i.enough vs m here)
      where
        by : (left : ℕ) → n < left + known.least → (vs : List ℕ) (m : State) → Stands known team active vs m → Leads Q more (left_of left vs m)
        by zero enough vs m here =
            let a = here.0.known_as.least in let o = here.0.known_as.most in l.goes_on (bound (omega (arith, enough, a, o)))
        by (suc left) enough vs m here =
            leads_then (λ xs s. Tests found tested_known team vs xs s) Q mid more (tested_on p n line e vs m) _
            (comes_out found tested_known team vs m mid (leads m vs here.0 here.1)) l (λ xs s g. next left vs xs s here.1 g.0.0 g.0.1 g.1)

    -- one turn more
    pub turn_goes : (new : Standing) (later : List Member) (chosen : List Active) (on : Bool) →
        known.least < tested_known.least → tested_known.least ≤ new.least → known.least < n →
        ((vs : List ℕ) (xs : List Part) → AreActive active vs → IsFound p found vs xs → AreActive chosen (those true xs)) →
        ((vs : List ℕ) → AreActive chosen vs → vs ≢ []) →
        ((m : State) (vs : List ℕ) → StandsWith tested_known team m → AreWay p e true vs m → AreActive chosen vs →
        Leads (λ u s. (on ≡ true) × StandsWith new later s) more (perform_list_on p n body vs m)) →
        InTurnsOn before first start new later chosen more
    turn_goes new later chosen on rises stays room chooses some does = by i.left i.enough i.comes
      where
        by : (left : ℕ) → n < left + known.least → ((m : State) (vs : List ℕ) → StandsWith before first m → AreActive start vs →
            ComesWith (Stands known team active) told (left_of left) (left_of (n + 1) vs m)) →
            InTurnsOn before first start new later chosen more
        by zero enough comes = absurd (omega (arith, enough, room))
        by (suc left) enough comes = record {
          left = left;
          enough = omega (arith, enough, rises, stays);
          comes = λ m vs h act.
              with_on (Stands known team active) (Stands new later chosen) told more (left_of (suc left)) (left_of left) (left_of (n + 1) vs m)
              (comes m vs h act) (kept_then told mid more k l)
              (λ vs m here. then_with (λ xs s. Tests found tested_known team vs xs s) (Stands new later chosen) mid more
              (left_of left) (tested_on p n line e vs m) _ (comes_out found tested_known team vs m mid (leads m vs here.0 here.1)) l
              (λ xs s g. let a : AreActive chosen (those true xs) = chooses vs xs here.1 g.0.0 in
              unless_some (ComesWith (Stands new later chosen) more (left_of left)) (those true xs) (Goes tt s) _ (some (those true xs) a)
              (then_with (λ u s. (on ≡ true) × StandsWith new later s) (Stands new later chosen) more more (left_of left)
              (perform_list_on p n body (those true xs) s) _ (does s (those true xs) g.0.1 g.1 a) (kept_same more)
              (λ u s f. inr (record { members = those true xs; state = s; same = refl; stands = (f.1, a) })))));
        }

  -- nobody goes on
  pub turns_end : (Q : Unit {0} → State → Type 0) (told : Told) (k : ℕ) (vs : List ℕ) (m : State) → vs ≡ [] → Q tt m →
      Leads Q told (behind k vs m)
  turns_end Q told k vs m none q = unless_empty (Leads Q told) vs (Goes tt m) _ none q

  -- a body behind which no run goes on
  pub turns_stop : (Q : Unit {0} → State → Type 0) (new : Standing) (later : List Member) (told : Told) (on : Bool) (k : ℕ) (vs : List ℕ)
      (m : State) → vs ≢ [] → Leads (λ u s. (on ≡ true) × StandsWith new later s) told (perform_list_on p n body vs m) → on ≡ false →
      Leads Q told (behind k vs m)
  turns_stop Q new later told on k vs m some does none =
      unless_some (Leads Q told) vs (Goes tt m) _ some
      (leads_then (λ u s. (on ≡ true) × StandsWith new later s) Q told told (perform_list_on p n body vs m) _ does (kept_same told)
      (λ u s g. absurd (cc (sym none ∙ g.0))))

  -- a loop that has come to rest
  module _ (rest inside back : Standing) (team members : List Member) (active : List Active) (mid told : Told)
      (found : Option (Vec Row Global)) (on : Bool) (stay : StayActive active)
      (does : (m : State) (vs : List ℕ) → StandsWith rest team m → AreWay p e true vs m → AreActive active vs →
      Leads (λ u s. (on ≡ true) × StandsWith inside members s) mid (perform_list_on p n body vs m))
      (leads : (m : State) (vs : List ℕ) → StandsWith inside members m → AreActive active vs →
      Leads (λ xs s. IsFound p found vs xs × StandsWith back members s) told (tested_on p n line e vs m))
      (returns : (vs : List ℕ) (xs : List Part) (m : State) → IsFound p found vs xs → StandsWith back members m → StandsWith rest team m)
      (members_of : (vs : List ℕ) (xs : List Part) → IsFound p found vs xs → map (λ (x : Part). x.member) xs ≡ vs)
      (goes_on : told.may_go_on ≡ true) (k : IsKept mid told) where
    pub rest_leads : (left : ℕ) (m : State) (vs : List ℕ) → StandsWith rest team m → AreWay p e true vs m → AreActive active vs →
        Leads (λ u s. (true ≡ true) × StandsWith rest team s) told (behind left vs m)
    rest_leads left m [] h way act = (refl, h)
    rest_leads zero m (v ∷ vs) h way act =
        leads_then (λ u s. (on ≡ true) × StandsWith inside members s) _ mid told (perform_list_on p n body (v ∷ vs) m) _
        (does m (v ∷ vs) h way act) k (λ u s g. goes_on)
    rest_leads (suc left) m (v ∷ vs) h way act =
        leads_then (λ u s. (on ≡ true) × StandsWith inside members s) _ mid told (perform_list_on p n body (v ∷ vs) m) _
        (does m (v ∷ vs) h way act) k
        (λ u s g. leads_then (λ xs s. Tests found back members (v ∷ vs) xs s) _ told told (tested_on p n line e (v ∷ vs) s) _
        (comes_out found back members (v ∷ vs) s told (leads s (v ∷ vs) g.1 act)) (kept_same told)
        (λ xs s f. rest_leads left s (those true xs) (returns (v ∷ vs) xs s f.0.0 f.0.1) f.1
        (stay (v ∷ vs) xs act (members_of (v ∷ vs) xs f.0.0))))

  -- a loop whose body no run leaves
  pub held_leads : (rest inside : Standing) (team members : List Member) (active : List Active) (told : Told) (on : Bool) →
      ((m : State) (vs : List ℕ) → StandsWith rest team m → AreWay p e true vs m → AreActive active vs →
      Leads (λ u s. (on ≡ true) × StandsWith inside members s) told (perform_list_on p n body vs m)) → on ≡ false →
      (left : ℕ) (m : State) (vs : List ℕ) → StandsWith rest team m → AreWay p e true vs m → AreActive active vs →
      Leads (λ u s. (true ≡ true) × StandsWith rest team s) told (behind left vs m)
  held_leads rest inside team members active told on does none left m [] h way act = (refl, h)
  held_leads rest inside team members active told on does none left m (v ∷ vs) h way act =
      leads_then (λ u s. (on ≡ true) × StandsWith inside members s) _ told told (perform_list_on p n body (v ∷ vs) m) _
      (does m (v ∷ vs) h way act) (kept_same told) (λ u s g. absurd (cc (sym none ∙ g.0)))
