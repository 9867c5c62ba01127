-- Reaches that have been gone over, none of which has a cell of another.
use Rattle.std.proofs.Common.{◌≡◌, ℕ, ◌<◌, ◌≤◌, ◌+◌, List, Option, Some, None, Bool, true, false, refl, sym, subst, ◌∙◌, arith, tests}
use Rattle.std.proofs.Common.{nat_lt, length, get_or}
use Rattle.std.specs.Prelude.{slice_index_or}
use Rattle.std.proofs.lemmas.Option.{get_or_from_slice_get, slice_get_within}
use Rattle.abstract_runs.specs.declared.reach.Reach.{Reach}
use Rattle.abstract_runs.specs.Covers.{IsReached}
use Rattle.abstract_runs.specs.Apart.{Reaches, AreApart}

-- those below k are apart, and each of their cells is one of these
pub record AreUnmet (reaches : List (Option Reach)) (k : ℕ) (These : ℕ → Type 0) : Type 0 where
  pub apart : (i j c : ℕ) → i < k → j < k → Reaches reaches i c → Reaches reaches j c → i ≡ j
  pub among : (j c : ℕ) → j < k → Reaches reaches j c → These c

pub none_unmet : (reaches : List (Option Reach)) (These : ℕ → Type 0) → AreUnmet reaches 0 These
none_unmet reaches These = record {
  apart = λ i j c below. absurd (omega (arith, below));
  among = λ j c below. absurd (omega (arith, below));
}

-- one more, of which none of these cells is reached
pub one_more : (reaches : List (Option Reach)) (k : ℕ) (These Those : ℕ → Type 0) → AreUnmet reaches k These →
    ((c : ℕ) → Reaches reaches k c → These c → ⊥) → ((c : ℕ) → These c → Those c) → ((c : ℕ) → Reaches reaches k c → Those c) →
    AreUnmet reaches (k + 1) Those
one_more reaches k These Those before fresh kept new = record {
  apart = λ i j c below under one other. by_first i j c below under one other (nat_lt i k) (nat_lt j k) refl refl;
  among = λ j c below one. by j c below one (nat_lt j k) refl;
}
  where
    last : (j : ℕ) → j < k + 1 → nat_lt j k ≡ false → j ≡ k
    last j below e = grind (arith, tests, below, e)

    by : (j c : ℕ) → j < k + 1 → Reaches reaches j c → (b : Bool) → nat_lt j k ≡ b → Those c
    by j c below one true e = kept c (before.among j c (grind (arith, tests, e)) one)
    by j c below one false e = new c (subst (λ j. Reaches reaches j c) (last j below e) one)

    by_first : (i j c : ℕ) → i < k + 1 → j < k + 1 → Reaches reaches i c → Reaches reaches j c → (a b : Bool) → nat_lt i k ≡ a →
        nat_lt j k ≡ b → i ≡ j
    by_first i j c below under one other true true e f = before.apart i j c (grind (arith, tests, e)) (grind (arith, tests, f)) one other
    by_first i j c below under one other true false e f =
        absurd (fresh c (subst (λ j. Reaches reaches j c) (last j under f) other) (before.among i c (grind (arith, tests, e)) one))
    by_first i j c below under one other false true e f =
        absurd (fresh c (subst (λ j. Reaches reaches j c) (last i below e) one) (before.among j c (grind (arith, tests, f)) other))
    by_first i j c below under one other false false e f = last i below e ∙ sym (last j under f)

reaches_below : (reaches : List (Option Reach)) (k c : ℕ) → Reaches reaches k c → k < length reaches
reaches_below reaches k c r = slice_get_within reaches k (Some r.reach) r.is

-- all of them
pub all_unmet : (reaches : List (Option Reach)) (k : ℕ) (These : ℕ → Type 0) → AreUnmet reaches k These → length reaches ≤ k →
    AreApart reaches
all_unmet reaches k These all past = λ i j c one other.
    let a = reaches_below reaches i c one in
    let b = reaches_below reaches j c other in
    all.apart i j c (omega (arith, a, past)) (omega (arith, b, past)) one other

-- what is reached at a place
reach_is : (reaches : List (Option Reach)) (k c : ℕ) (r : Reach) → get_or reaches k None ≡ Some r →
    Reaches reaches k c → IsReached c r
reach_is reaches k c r at one =
    let same : Some one.reach ≡ Some r = sym (get_or_from_slice_get reaches k (Some one.reach) None one.is) ∙ at in
    let reach : one.reach ≡ r = cc same in
    subst (IsReached c) reach one.reached

pub none_more : (reaches : List (Option Reach)) (k : ℕ) (These : ℕ → Type 0) → AreUnmet reaches k These → get_or reaches k None ≡ None →
    AreUnmet reaches (k + 1) These
none_more reaches k These before none =
    one_more reaches k These These before (λ c one here. nothing c one) (λ c here. here) (λ c one. absurd (nothing c one))
  where
    nothing : (c : ℕ) → Reaches reaches k c → ⊥
    nothing c one = absurd (cc (sym (get_or_from_slice_get reaches k (Some one.reach) None one.is) ∙ none))

pub next_behind : (reaches : List (Option Reach)) (k next behind : ℕ) (r : Reach) →
    AreUnmet reaches k (λ c. c < next) → get_or reaches k None ≡ Some r → next ≤ r.least → r.least ≤ r.most →
    behind ≡ r.most + 1 → AreUnmet reaches (k + 1) (λ c. c < behind)
next_behind reaches k next behind r before at least most e =
    one_more reaches k (λ c. c < next) (λ c. c < behind) before
    (λ c one here. let i = reach_is reaches k c r at one in let l = i.least in absurd (omega (arith, l, here, least)))
    (λ c here. omega (arith, here, least, most, e))
    (λ c one. let i = reach_is reaches k c r at one in let m = i.most in omega (arith, m, e))

pub next_marked : (reaches : List (Option Reach)) (k : ℕ) (old new : List Bool) (r : Reach) →
    AreUnmet reaches k (λ c. slice_index_or old c false ≡ true) → get_or reaches k None ≡ Some r →
    ((c : ℕ) → IsReached c r → slice_index_or old c false ≡ false) →
    ((c : ℕ) → slice_index_or old c false ≡ true → slice_index_or new c false ≡ true) →
    ((c : ℕ) → IsReached c r → slice_index_or new c false ≡ true) → AreUnmet reaches (k + 1) (λ c. slice_index_or new c false ≡ true)
next_marked reaches k old new r before at fresh kept marked =
    one_more reaches k (λ c. slice_index_or old c false ≡ true) (λ c. slice_index_or new c false ≡ true) before
    (λ c one here. absurd (cc (sym here ∙ fresh c (reach_is reaches k c r at one)))) kept
    (λ c one. marked c (reach_is reaches k c r at one))
