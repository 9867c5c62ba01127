-- The processors of a pardo, one by one.
use Rattle.std.proofs.Common.{◌≡◌, ℕ, zero, suc, List, [], ◌∷◌, pos, refl, subst, sym, length, get_or, ◌<◌, ◌≤◌, arith, Bool, Option, Some, None, IfSome}
use Rattle.std.proofs.Common.{Bor, Vec, Global}
use Rattle.std.specs.Option.{option_copied, option_or, unwrap_or}
use Rattle.std.specs.Prelude.{slice_get}
use Rattle.std.specs.List.{AllByRecursion}
use Rattle.pram_meaning.specs.Store as store
use Rattle.pram_meaning.specs.Store.{member_of, seen_by}
use Rattle.abstract_runs.specs.declared.standing.Member.{Member}
use Rattle.abstract_runs.specs.declared.standing.Standing.{Standing}
use Rattle.pram_check.specs.Checked.{Checked}
use Rattle.pram_names.specs.declared.body.Expression.{Expression}
use Rattle.abstract_runs.specs.Inner.{AreKnownIn, AreWay, IsKnownAt, IsStill, StandsOn}
use Rattle.abstract_runs.specs.Standing.{AreMembersOf, IsKnownAs, IsMemberOf, StandsWith}
use Rattle.abstract_runs.specs.Tests.{ComesTo}
use Rattle.abstract_runs.proofs.Each.{ToEach}

-- one that is there
pub is_known_there : (g : store.Member) (known : List Member) (v : ℕ) (one : Member) → v < length known → one ≡ get_or known v one →
    IsKnownAt (slice_get known v) g → IsMemberOf g one
is_known_there g [] v one below e h = absurd (omega (arith, below))
is_known_there g (k ∷ known) zero one below e h = subst (IsMemberOf g) (sym e) h
is_known_there g (k ∷ known) (suc v) one below e h = is_known_there g known v one (omega (arith, below)) e h

-- one that isn't
pub is_known_past : (g : store.Member) (known : List Member) (v : ℕ) → length known ≤ v → IsKnownAt (slice_get known v) g →
    g ≡ record { index = pos 0; locals = [] }
is_known_past g [] v past h = h
is_known_past g (k ∷ known) zero past h = absurd (omega (arith, past))
is_known_past g (k ∷ known) (suc v) past h = is_known_past g known v (omega (arith, past)) h

-- where all are known, so is each
known_at : (gs : List store.Member) (known : List Member) (v : ℕ) → AreMembersOf gs known → IsKnownAt (slice_get known v) (member_of gs v)
known_at [] [] v h = refl
known_at (g ∷ gs) [] v h = absurd h
known_at [] (k ∷ known) v h = absurd h
known_at (g ∷ gs) (k ∷ known) zero h = h.0
known_at (g ∷ gs) (k ∷ known) (suc v) h = known_at gs known v h.1

pub member_read : (gs : List store.Member) (known : List Member) (v : ℕ) (one : Member) → v < length known → one ≡ get_or known v one →
    AreMembersOf gs known → IsMemberOf (member_of gs v) one
member_read gs known v one below e h = is_known_there (member_of gs v) known v one below e (known_at gs known v h)

-- and each of a set
pub known_in : (team : List Member) (vs : List ℕ) (m : store.State) → AreMembersOf m.team team → AreKnownIn team vs m
known_in team [] m h = tt
known_in team (v ∷ vs) m h = (known_at m.team team v h, known_in team vs m h)

-- what is known of a set, or else what is known of all
pub seen_known : (team : List Member) (inner : Option (Bor (Vec Member Global))) (all seen : Bor (Vec Member Global)) →
    seen ≡ unwrap_or inner all → all.now.items ≡ team → (m : store.State) (vs : List ℕ) → AreMembersOf m.team team →
    IfSome inner (λ t. AreKnownIn t.now.items vs m) → AreKnownIn seen.now.items vs m
seen_known team None all seen is same m vs h k =
    subst (λ (t : Bor (Vec Member Global)). AreKnownIn t.now.items vs m) (sym is)
    (subst (λ t. AreKnownIn t vs m) (sym same) (known_in team vs m h))
seen_known team (Some t) all seen is same m vs h k = subst (λ (t : Bor (Vec Member Global)). AreKnownIn t.now.items vs m) (sym is) k

-- what a test left, under a reference
pub lent_known : (left : Option (Vec Member Global)) (lent : Option (Bor (Vec Member Global))) → option_copied lent ≡ left →
    (m : store.State) (vs : List ℕ) → IfSome left (λ t. AreKnownIn t.items vs m) → IfSome lent (λ t. AreKnownIn t.now.items vs m)
lent_known left None is m vs h = tt
lent_known left (Some t) is m vs h = subst (λ (o : Option (Vec Member Global)). IfSome o (λ t. AreKnownIn t.items vs m)) (sym is) h

-- or else what was known before
pub sharper_known : (left : Option (Vec Member Global)) (lent inner more : Option (Bor (Vec Member Global))) → option_copied lent ≡ left →
    more ≡ option_or lent inner → (m : store.State) (vs : List ℕ) → IfSome left (λ t. AreKnownIn t.items vs m) →
    IfSome inner (λ t. AreKnownIn t.now.items vs m) → IfSome more (λ t. AreKnownIn t.now.items vs m)
sharper_known left None inner more is same m vs h k =
    subst (λ (o : Option (Bor (Vec Member Global))). IfSome o (λ t. AreKnownIn t.now.items vs m)) (sym same) k
sharper_known left (Some t) inner more is same m vs h k =
    subst (λ (o : Option (Bor (Vec Member Global))). IfSome o (λ t. AreKnownIn t.now.items vs m)) (sym same)
    (lent_known left (Some t) is m vs h)

pub stands_on_all : (known : Standing) (team : List Member) (vs : List ℕ) (m : store.State) → StandsWith known team m → StandsOn known team vs m
stands_on_all known team vs m h = record { known_as = h.known_as; members = known_in team vs m h.members }

-- behind a test
pub stands_still : (known : Standing) (team : List Member) (before m : store.State) → IsStill known before m → AreMembersOf before.team team →
    StandsWith known team m
stands_still known team before m h g =
    record { known_as = h.known_as; members = subst (λ gs. AreMembersOf gs team) (sym h.team) g }

-- a set whose processors are as they were
pub known_as_were : (team : List Member) (vs : List ℕ) (before m : store.State) →
    AllByRecursion (λ v. member_of m.team v ≡ member_of before.team v) vs → AreKnownIn team vs before → AreKnownIn team vs m
known_as_were team [] before m same h = tt
known_as_were team (v ∷ vs) before m same h =
    (subst (IsKnownAt (slice_get team v)) (sym same.0) h.0, known_as_were team vs before m same.1 h.1)

-- ---- what a test left

-- of a processor whose test comes out so, the second is known where the first is
abbrev pub IsLeft : Checked → Standing → Expression → Bool → Member → Member → Type 0
IsLeft p known e way a b =
    (m : store.State) (v : ℕ) → IsKnownAs known m → IsMemberOf (member_of m.team v) a → ComesTo (seen_by p m v) e way →
    IsMemberOf (member_of m.team v) b

one_left : (g : store.Member) (team inner : List Member) (v : ℕ) → length team ≡ length inner →
    ((z : Member) → v < length team → IsMemberOf g (get_or team v z) → IsMemberOf g (get_or inner v z)) →
    IsKnownAt (slice_get team v) g → IsKnownAt (slice_get inner v) g
one_left g [] [] v same f h = h
one_left g (a ∷ team) [] v same f h = absurd (omega (arith, same))
one_left g [] (b ∷ inner) v same f h = absurd (omega (arith, same))
one_left g (a ∷ team) (b ∷ inner) zero same f h = f a (omega arith) h
one_left g (a ∷ team) (b ∷ inner) (suc v) same f h =
    one_left g team inner v (omega (arith, same)) (λ z below. f z (omega (arith, below))) h

pub team_left : (p : Checked) (known : Standing) (e : Expression) (way : Bool) (team inner : List Member) (k : ℕ) →
    ToEach (IsLeft p known e way) k team inner → length team ≤ k → length team ≡ length inner → (vs : List ℕ) (m : store.State) →
    IsKnownAs known m → AreKnownIn team vs m → AreWay p e way vs m → AreKnownIn inner vs m
team_left p known e way team inner k h past same [] m is there come = tt
team_left p known e way team inner k h past same (v ∷ vs) m is there come = (
  one_left (member_of m.team v) team inner v same (λ z below g. h v z (omega (arith, below, past)) m v is g come.0) there.0,
  team_left p known e way team inner k h past same vs m is there.1 come.1,
)
