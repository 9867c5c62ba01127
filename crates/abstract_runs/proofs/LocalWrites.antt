-- Locals that are written.
use Rattle.std.proofs.Common.{◌≡◌, ℕ, zero, suc, ◌<◌, ◌≤◌, List, [], ◌∷◌, ◌++◌, subst, arith, length, get_or}
use Rattle.std.specs.Prelude.{slice_set}
use Rattle.std.proofs.lemmas.List.Sums.{fold-append}
use Rattle.pram_meaning.specs.Conflict.{Part}
use Rattle.pram_meaning.specs.Store as store
use Rattle.pram_meaning.specs.Store.{member_of, with_local}
use Rattle.pram_meaning.specs.Together.{value_in, with_locals}
use Rattle.abstract_runs.specs.declared.standing.Member.{Member}
use Rattle.abstract_runs.proofs.TeamLists.{like_same, team_like_same}
use Rattle.abstract_runs.specs.Likeness.{AreLike, IsLike}
use Rattle.abstract_runs.specs.Standing.{AreMembersOf, IsMemberOf}

pub locals_last : (place : ℕ) (xs : List Part) (x : Part) (gs : List store.Member) →
    with_locals place (xs ++ x ∷ []) gs ≡ with_local place x.member (value_in x.attempt) (with_locals place xs gs)
locals_last place xs x gs = fold-append (λ team (y : Part). with_local place y.member (value_in y.attempt) team) gs xs (x ∷ [])

-- one member is another
pub members_set : (gs : List store.Member) (known : List Member) (v : ℕ) (g : store.Member) (one : Member) → AreMembersOf gs known →
    IsMemberOf g one → AreMembersOf (slice_set gs v g) (slice_set known v one)
members_set [] [] v g one h i = tt
members_set [] (k ∷ known) v g one h i = absurd h
members_set (m ∷ gs) [] v g one h i = absurd h
members_set (m ∷ gs) (k ∷ known) zero g one h i = (i, h.1)
members_set (m ∷ gs) (k ∷ known) (suc v) g one h i = (h.0, members_set gs known v g one h.1 i)

pub members_set_past : (gs : List store.Member) (known : List Member) (v : ℕ) (g : store.Member) → length known ≤ v →
    AreMembersOf gs known →
    AreMembersOf (slice_set gs v g) known
members_set_past [] [] v g past h = tt
members_set_past [] (k ∷ known) v g past h = absurd h
members_set_past (m ∷ gs) [] v g past h = absurd h
members_set_past (m ∷ gs) (k ∷ known) zero g past h = absurd (omega (arith, past))
members_set_past (m ∷ gs) (k ∷ known) (suc v) g past h = (h.0, members_set_past gs known v g (omega (arith, past)) h.1)

-- nothing is another
pub members_stay : (gs : List store.Member) (known : List Member) (v : ℕ) (one : Member) → v < length known → AreMembersOf gs known →
    (IsMemberOf (member_of gs v) one) → AreMembersOf gs (slice_set known v one)
members_stay [] [] v one below h i = absurd (omega (arith, below))
members_stay [] (k ∷ known) v one below h i = absurd h
members_stay (m ∷ gs) [] v one below h i = absurd h
members_stay (m ∷ gs) (k ∷ known) zero one below h i = (i, h.1)
members_stay (m ∷ gs) (k ∷ known) (suc v) one below h i = (h.0, members_stay gs known v one (omega (arith, below)) h.1 i)

-- the same processors
pub like_set : (team : List Member) (v : ℕ) (a one : Member) → a ≡ get_or team v a → IsLike a one → AreLike team (slice_set team v one)
like_set [] v a one e i = tt
like_set (k ∷ team) zero a one e i = (subst (λ k. IsLike k one) e i, team_like_same team)
like_set (k ∷ team) (suc v) a one e i = (like_same k, like_set team v a one e i)
