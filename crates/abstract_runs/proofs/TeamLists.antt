-- Teams whose processors are related one by one.
use Rattle.std.proofs.Common.{◌≡◌, ◌↔◌, subst, ℕ, suc, ◌≤◌, List, [], ◌∷◌, refl, sym, ◌∙◌, length, arith}
use Rattle.pram_meaning.specs.Store as store
use Rattle.abstract_runs.specs.declared.standing.Member.{Member}
use Rattle.abstract_runs.specs.Likeness.{IsLike, AreLike}
use Rattle.abstract_runs.specs.Standing.{IsMemberOf, AreMembersOf}
use Rattle.abstract_runs.proofs.Each.{ToEach, each_first}

-- the second stands for whatever the first stands for
abbrev pub Holds : Member → Member → Type 0
Holds a b = (g : store.Member) → IsMemberOf g a → IsMemberOf g b

pub like_same : (a : Member) → IsLike a a
like_same a = record { index = refl; locals = refl }

pub like_then : (a b c : Member) → IsLike a b → IsLike b c → IsLike a c
like_then a b c h k = record { index = h.index ∙ k.index; locals = h.locals ∙ k.locals }

pub like_other : (a b c : Member) → IsLike a b → IsLike a c → IsLike b c
like_other a b c h k = record { index = sym h.index ∙ k.index; locals = sym h.locals ∙ k.locals }

pub like_length : (team other : List Member) → AreLike team other → length team ≡ length other
like_length [] [] h = refl
like_length (a ∷ team) [] h = absurd h
like_length [] (b ∷ other) h = absurd h
like_length (a ∷ team) (b ∷ other) h = let l = like_length team other h.1 in omega (arith, l)

-- those at a place are alike
pub like_at : (team other : List Member) (n : ℕ) → AreLike team other → n ≤ length team → ToEach IsLike n team other
like_at [] [] n h past = λ d z below. absurd (omega (arith, below, past))
like_at (a ∷ team) [] n h past = absurd h
like_at [] (b ∷ other) n h past = absurd h
like_at (a ∷ team) (b ∷ other) n h past =
    each_first IsLike a b team other n h.0 (like_at team other (length team) h.1 (omega arith)) past

-- all are alike where those at each place are
pub like_each : (team other : List Member) (n : ℕ) → ToEach IsLike n team other → length team ≤ n → length team ≡ length other →
    AreLike team other
like_each [] [] n h past same = tt
like_each [] (b ∷ other) n h past same = absurd (omega (arith, same))
like_each (a ∷ team) [] n h past same = absurd (omega (arith, same))
like_each (a ∷ team) (b ∷ other) n h past same = (
  h 0 a (omega (arith, past)),
  like_each team other (length team) (λ d w below. h (suc d) w (omega (arith, below, past))) (omega arith) (omega (arith, same)),
)

pub members_each : (team other : List Member) (gs : List store.Member) (n : ℕ) → ToEach Holds n team other → length team ≤ n →
    length team ≡ length other → AreMembersOf gs team → AreMembersOf gs other
members_each [] [] gs n h past same k = k
members_each [] (b ∷ other) gs n h past same k = absurd (omega (arith, same))
members_each (a ∷ team) [] gs n h past same k = absurd (omega (arith, same))
members_each (a ∷ team) (b ∷ other) [] n h past same k = absurd k
members_each (a ∷ team) (b ∷ other) (g ∷ gs) n h past same k = (
  h 0 a (omega (arith, past)) g k.0,
  members_each team other gs (length team) (λ d w below. h (suc d) w (omega (arith, below, past))) (omega arith) (omega (arith, same)) k.1,
)

-- a team is like itself
pub team_like_same : (team : List Member) → AreLike team team
team_like_same [] = tt
team_like_same (a ∷ team) = (like_same a, team_like_same team)

-- and like what one like it is like
pub team_like_then : (one two three : List Member) → AreLike one two → AreLike two three → AreLike one three
team_like_then [] [] three h k = k
team_like_then (a ∷ one) [] three h k = absurd h
team_like_then [] (b ∷ two) three h k = absurd h
team_like_then (a ∷ one) (b ∷ two) [] h k = absurd k
team_like_then (a ∷ one) (b ∷ two) (c ∷ three) h k = (like_then a b c h.0 k.0, team_like_then one two three h.1 k.1)

-- a copy of a team under another name
pub like_as : (one two copy : List Member) → one ≡ two → AreLike one copy → AreLike two copy
like_as one two copy same h = subst (λ l. AreLike l copy) same h

pub members_as : (one two copy : List Member) (gs : List store.Member) → one ≡ two → (AreMembersOf gs one ↔ AreMembersOf gs copy) →
    AreMembersOf gs two → AreMembersOf gs copy
members_as one two copy gs same h k = h.0 (subst (λ l. AreMembersOf gs l) (sym same) k)
