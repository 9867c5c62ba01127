-- The processors of a pardo, as they are gathered.
use Rattle.std.proofs.Common.{◌≡◌, ℕ, zero, suc, ◌+◌, ◌-◌, ◌<◌, ◌≤◌, ℤ, pos, ◌+ℤ◌, List, [], ◌∷◌, ◌++◌, replicate, map, sym, subst, arith, append_assoc, append-nil, true}
use Rattle.std.proofs.lemmas.Int.{ints}
use Rattle.intervals.specs.declared.interval.Interval.{Interval}
use Rattle.intervals.specs.Intervals.{IsIn}
use Rattle.pram_meaning.specs.Store.{members}
use Rattle.abstract_runs.specs.declared.active.Active.{Active}
use Rattle.abstract_runs.specs.declared.standing.Member.{Member}
use Rattle.all_inputs.specs.Overall.{Cover}
use Rattle.abstract_runs.specs.Rows as rows
use Rattle.abstract_runs.specs.Rows.{AreActive}
use Rattle.abstract_runs.specs.Standing.{AreMembersOf, IsMemberOf}
use Rattle.abstract_runs.proofs.Opening.{cover_same}

-- those that are gathered, with those to come, stand for all
pub record InGathered (first : ℤ) (count locals j : ℕ) (team : List Member) : Type 0 where
  pub more : (rest : List Member) → AreMembersOf (members (first +ℤ pos j) (count - j) locals) rest →
      AreMembersOf (members first count locals) (team ++ rest)

pub team_starts : (first : ℤ) (count locals : ℕ) (team : List Member) → team ≡ [] → InGathered first count locals 0 team
team_starts first count locals team none = record {
  more = λ rest h.
      subst (λ l. AreMembersOf (members first count locals) (l ++ rest)) (sym none)
      (subst (λ k. AreMembersOf (members first k locals) rest) (let k : count - 0 ≡ count = omega arith in k)
      (subst (λ a. AreMembersOf (members a (count - 0) locals) rest) (let a : first +ℤ pos 0 ≡ first = omega (arith, ints) in a) h));
}

a_member : (a : ℤ) (locals : ℕ) (g : Member) (zero_alone : Interval) → g.index ≡ a → g.locals.items ≡ replicate locals zero_alone →
    IsIn (pos 0) zero_alone → IsMemberOf (record { index = a; locals = replicate locals (pos 0) }) g
a_member a locals g zero_alone i l in_it = record {
  index = sym i;
  locals = subst (λ is. Cover is (replicate locals (pos 0))) (sym l) (cover_same locals zero_alone (pos 0) in_it);
}

pub team_goes : (first : ℤ) (count locals j : ℕ) (team new : List Member) (g : Member) (zero_alone : Interval) →
    InGathered first count locals j team → j < count → g.index ≡ first +ℤ pos j → g.locals.items ≡ replicate locals zero_alone →
    IsIn (pos 0) zero_alone → new ≡ team ++ g ∷ [] → InGathered first count locals (j + 1) new
team_goes first count locals j team new g zero_alone b below i l in_it e = record {
  more = λ rest h.
      subst (λ n. AreMembersOf (members first count locals) (n ++ rest)) (sym e)
      (subst (AreMembersOf (members first count locals)) (sym (append_assoc team (g ∷ []) rest))
      (b.more (g ∷ rest) (subst (λ k. AreMembersOf (members (first +ℤ pos j) k locals) (g ∷ rest))
      (let k : suc (count - (j + 1)) ≡ count - j = omega (arith, below) in k) (
        a_member (first +ℤ pos j) locals g zero_alone i l in_it,
        subst (λ a. AreMembersOf (members a (count - (j + 1)) locals) rest)
            (let a : first +ℤ pos (j + 1) ≡ (first +ℤ pos j) +ℤ pos 1 = omega (arith, ints) in a) h,
      ))));
}

pub team_ends : (first : ℤ) (count locals j : ℕ) (team : List Member) → InGathered first count locals j team → count ≤ j →
    AreMembersOf (members first count locals) team
team_ends first count locals j team b past =
    subst (AreMembersOf (members first count locals)) (append-nil team)
    (b.more [] (subst (λ k. AreMembersOf (members (first +ℤ pos j) k locals) []) (let k : zero ≡ count - j = omega (arith, past) in k) tt))

-- ---- members, each of them sure

abbrev pub as_sure : ℕ → Active
as_sure v = record { member = v; is_sure = true }

pub sure_active : (vs : List ℕ) → AreActive (map as_sure vs) vs
sure_active [] = rows.none
sure_active (v ∷ vs) = rows.takes (sure_active vs)
