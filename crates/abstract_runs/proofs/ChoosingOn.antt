-- A choice of a set: what is known of those whose test came out one way.
use Rattle.std.proofs.Common.{◌≡◌, ℕ, List, [], ◌∷◌, Bool, true, false, Option, Some, None, IfSome, Vec, Global, Bor, sym, subst}
use Rattle.std.specs.Prelude.{slice_get}
use Rattle.std.specs.List.{AllByRecursion}
use Rattle.pram_check.specs.Checked.{Checked}
use Rattle.pram_names.specs.declared.body.Expression.{Expression}
use Rattle.pram_meaning.specs.Attempt.{Attempt, Effect, attempt_value}
use Rattle.pram_meaning.specs.Bounded.{tested_on}
use Rattle.pram_meaning.specs.Conflict.{Part}
use Rattle.pram_meaning.specs.Store.{State, View, member_of}
use Rattle.pram_meaning.specs.Together.{those}
use Rattle.abstract_runs.specs.declared.row.Row.{Row}
use Rattle.abstract_runs.specs.declared.standing.Member.{Member}
use Rattle.abstract_runs.specs.declared.standing.Standing.{Standing}
use Rattle.all_inputs.specs.declared.told.Told.{Told}
use Rattle.abstract_runs.specs.Inner.{AreKnownIn, AreWay, IsKnownAt}
use Rattle.abstract_runs.specs.Leads.{Leads}
use Rattle.abstract_runs.specs.Standing.{IsKnownAs, StandsWith}
use Rattle.abstract_runs.proofs.Beside.{AreBeside, IsNone}
use Rattle.abstract_runs.proofs.Leading.{kept_same, leads_on}
use Rattle.abstract_runs.proofs.Made.{AreMade, attempted_made, chosen_hold, ways_apart}
use Rattle.abstract_runs.proofs.Members.{known_as_were}
use Rattle.abstract_runs.proofs.Onward.{leads_onward}
use Rattle.abstract_runs.proofs.Sets.{IsFound}

-- what is left, of those whose test came out so
pub left_known : (p : Checked) (known : Standing) (team : List Member) (e : Expression) (way : Bool) (left : Option (Vec Member Global))
    (vs : List ℕ) (m : State) →
    IfSome left (λ inner. (m : State) (vs : List ℕ) → IsKnownAs known m → AreKnownIn team vs m → AreWay p e way vs m → AreKnownIn inner.items vs m) →
    IsKnownAs known m → AreKnownIn team vs m → AreWay p e way vs m → IfSome left (λ inner. AreKnownIn inner.items vs m)
left_known p known team e way None vs m h k t w = tt
left_known p known team e way (Some inner) vs m h k t w = h m vs k t w

module _ (p : Checked) (e : Expression) where
  abbrev pub test_of : View → Attempt Effect
  test_of s = attempt_value s e

  abbrev pub AreTested : List ℕ → State → List Part → State → Type 0
  AreTested = AreMade p test_of

  pub made_leads : (n line : ℕ) (found : Option (Vec Row Global)) (known : Standing) (team : List Member) (told : Told) (vs : List ℕ) (m : State) →
      Leads (λ xs s. IsFound p found vs xs × StandsWith known team s) told (tested_on p n line e vs m) →
      Leads (λ xs s. IsFound p found vs xs × (StandsWith known team s × AreTested vs m xs s)) told (tested_on p n line e vs m)
  made_leads n line found known team told vs m h =
      leads_on (λ xs s. (IsFound p found vs xs × StandsWith known team s) × AreTested vs m xs s)
      (λ xs s. IsFound p found vs xs × (StandsWith known team s × AreTested vs m xs s)) told told (tested_on p n line e vs m)
      (leads_onward (λ xs s. IsFound p found vs xs × StandsWith known team s) (AreTested vs m) told (tested_on p n line e vs m) h
      (attempted_made p n line test_of vs m)) (kept_same told) (λ xs s g. (g.0.0, (g.0.1, g.1)))

  module _ (vs : List ℕ) (before : State) (xs : List Part) (m : State) (made : AreTested vs before xs m) where
    pub chosen_known : (team : List Member) (way : Bool) → AreKnownIn team vs before → AreKnownIn team (those way xs) m
    chosen_known team way h =
        let Known : ℕ → Type 0 = λ v. IsKnownAt (slice_get team v) (member_of m.team v) in
        let here : AllByRecursion Known vs =
        subst (λ gs. AllByRecursion (λ v. IsKnownAt (slice_get team v) (member_of gs v)) vs) (sym made.team) h in
        subst (λ xs. AllByRecursion Known (those way xs)) (sym made.made) (chosen_hold Known p m test_of way vs here)

    pub inner_chosen : (inner : Option (Bor (Vec Member Global))) (way : Bool) → IfSome inner (λ t. AreKnownIn t.now.items vs before) →
        IfSome inner (λ t. AreKnownIn t.now.items (those way xs) m)
    inner_chosen None way h = tt
    inner_chosen (Some t) way h = chosen_known t.now.items way h

    -- of the others no processor changes while these go on
    pub others_were : (later : State) → AreBeside (those true xs) m later →
        AllByRecursion (λ v. member_of later.team v ≡ member_of m.team v) (those false xs)
    others_were later beside =
        by (those false xs) (subst (λ xs. AllByRecursion (IsNone (those true xs)) (those false xs)) (sym made.made) (ways_apart p m test_of vs))
      where
        by : (ws : List ℕ) → AllByRecursion (IsNone (those true xs)) ws → AllByRecursion (λ v. member_of later.team v ≡ member_of m.team v) ws
        by [] h = tt
        by (w ∷ ws) h = (beside w h.0, by ws h.1)

-- the same of what may be known
pub left_were : (left : Option (Vec Member Global)) (vs : List ℕ) (before m : State) →
    AllByRecursion (λ v. member_of m.team v ≡ member_of before.team v) vs → IfSome left (λ t. AreKnownIn t.items vs before) →
    IfSome left (λ t. AreKnownIn t.items vs m)
left_were None vs before m same h = tt
left_were (Some t) vs before m same h = known_as_were t.items vs before m same h

pub inner_were : (inner : Option (Bor (Vec Member Global))) (vs : List ℕ) (before m : State) →
    AllByRecursion (λ v. member_of m.team v ≡ member_of before.team v) vs → IfSome inner (λ t. AreKnownIn t.now.items vs before) →
    IfSome inner (λ t. AreKnownIn t.now.items vs m)
inner_were None vs before m same h = tt
inner_were (Some t) vs before m same h = known_as_were t.now.items vs before m same h

-- where all processors are as they were
pub inner_still : (inner : Option (Bor (Vec Member Global))) (vs : List ℕ) (before m : State) → m.team ≡ before.team →
    IfSome inner (λ t. AreKnownIn t.now.items vs before) → IfSome inner (λ t. AreKnownIn t.now.items vs m)
inner_still None vs before m same h = tt
inner_still (Some t) vs before m same h =
    subst (λ gs. AllByRecursion (λ v. IsKnownAt (slice_get t.now.items v) (member_of gs v)) vs) (sym same) h
