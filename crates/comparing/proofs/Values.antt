-- Two lists of values that have the same at each place, or not.
use Rattle.std.proofs.Common.{◌≡◌, ◌≢◌, ℕ, zero, suc, ◌+◌, ◌<◌, ◌≤◌, max, Bool, true, false, not, cond, Option, Some, None, ℤ, List, []}
use Rattle.std.proofs.Common.{◌∷◌}
use Rattle.std.proofs.Common.{length, refl, ap, sym, subst, inl, inr, ◌∙◌, arith}
use Rattle.std.proofs.lemmas.Bool.{cases_lt}
use Rattle.std.proofs.lemmas.Bool.Decides.{Decides-int_eq}
use Rattle.std.specs.Prelude.{slice_get}
use Rattle.comparing.specs.declared.unequal.Beside.{Beside}
use Rattle.comparing.specs.Unequal.{beside, same_value}
use Rattle.comparing.proofs.Unequals.{unequals_from}

-- ---- one place

pub one_value : (x y : Option ℤ) → same_value x y ≡ true → x ≡ y
one_value None None h = refl
one_value None (Some y) h = absurd (cc h)
one_value (Some x) None h = absurd (cc h)
one_value (Some x) (Some y) h = ap Some ((Decides-int_eq x y).0 h)

pub same_itself : (x : Option ℤ) → same_value x x ≡ true
same_itself None = refl
same_itself (Some x) = (Decides-int_eq x x).1 refl

pub other_values : (x y : Option ℤ) → not (same_value x y) ≡ true → x ≢ y
other_values x y h = λ e.
    let same : same_value x y ≡ true = ap (same_value x) (sym e) ∙ same_itself x in
    let P : not true ≡ true → ⊥ = λ k. cc in
    P (ap not (sym same) ∙ h)

-- ---- all places

-- what two lists have at a place is the same
abbrev pub SameAt : List ℤ → ℕ → List ℤ → ℕ → ℕ → Type 0
SameAt xs s ys t k = slice_get xs (s + k) ≡ slice_get ys (t + k)

step : (xs : List ℤ) (s : ℕ) (ys : List ℤ) (t a n : ℕ) (v : Bool) → same_value (slice_get xs (s + a)) (slice_get ys (t + a)) ≡ v →
    cond (not v) (beside xs s ys t a ∷ unequals_from xs s ys t (a + 1) n) (unequals_from xs s ys t (a + 1) n) ≡ [] →
    SameAt xs s ys t a × (unequals_from xs s ys t (a + 1) n ≡ [])
step xs s ys t a n true e h = (one_value (slice_get xs (s + a)) (slice_get ys (t + a)) e, h)
step xs s ys t a n false e h = absurd (cc h)

opened : (xs : List ℤ) (s : ℕ) (ys : List ℤ) (t a n : ℕ) → unequals_from xs s ys t a (suc n) ≡ [] →
    SameAt xs s ys t a × (unequals_from xs s ys t (a + 1) n ≡ [])
opened xs s ys t a n h = step xs s ys t a n (same_value (slice_get xs (s + a)) (slice_get ys (t + a))) refl h

pub none_unequal : (xs : List ℤ) (s : ℕ) (ys : List ℤ) (t a n : ℕ) → unequals_from xs s ys t a n ≡ [] → (k : ℕ) → a ≤ k → k < a + n →
    SameAt xs s ys t k
none_unequal xs s ys t a zero h k le lt = absurd (omega arith)
none_unequal xs s ys t a (suc n) h k le lt =
    let o = opened xs s ys t a n h in
    elim (cases_lt a k) [
      | inl behind ↦ none_unequal xs s ys t (a + 1) n o.1 k (omega arith) (omega arith)
      | inr here ↦
          let at : a ≡ k = omega arith in subst (SameAt xs s ys t) at o.0
    ]

pub all_same : (xs : List ℤ) (s : ℕ) (ys : List ℤ) (t a n : ℕ) → ((k : ℕ) → a ≤ k → k < a + n → SameAt xs s ys t k) →
    unequals_from xs s ys t a n ≡ []
all_same xs s ys t a zero h = refl
all_same xs s ys t a (suc n) h =
    let x = slice_get xs (s + a) in
    let rest = unequals_from xs s ys t (a + 1) n in
    let same : same_value x (slice_get ys (t + a)) ≡ true = ap (same_value x) (sym (h a (omega arith) (omega arith))) ∙ same_itself x in
    ap (λ (v : Bool). cond (not v) (beside xs s ys t a ∷ rest) rest) same
    ∙ all_same xs s ys t (a + 1) n (λ k le lt. h k (omega arith) (omega arith))

-- lists that have the same at each place are one
pub one_list : (xs ys : List ℤ) → ((k : ℕ) → k < max (length xs) (length ys) → slice_get xs k ≡ slice_get ys k) → xs ≡ ys
one_list [] [] h = refl
one_list [] (y ∷ ys) h = absurd (cc (h 0 (omega arith)))
one_list (x ∷ xs) [] h = absurd (cc (h 0 (omega arith)))
one_list (x ∷ xs) (y ∷ ys) h =
    let first : Some x ≡ Some y = h 0 (omega arith) in
    let head : x ≡ y = cc first in
    let tail = one_list xs ys (λ k lt. h (suc k) (omega arith)) in
    λ i. head i ∷ tail i

-- ---- the first place that differs

-- one of n places from a on has that; there the lists differ, and at those before it they have the same
pub record IsFirstUnequal (xs : List ℤ) (s : ℕ) (ys : List ℤ) (t a n : ℕ) (b : Beside) : Type 0 where
  pub place : ℕ
  pub is : beside xs s ys t place ≡ b
  pub above : a ≤ place
  pub below : place < a + n
  pub differs : slice_get xs (s + place) ≢ slice_get ys (t + place)
  pub agree : (k : ℕ) → a ≤ k → k < place → SameAt xs s ys t k

first_step : (xs : List ℤ) (s : ℕ) (ys : List ℤ) (t a n : ℕ) (b : Beside) (v : Bool) →
    same_value (slice_get xs (s + a)) (slice_get ys (t + a)) ≡ v →
    (slice_get (unequals_from xs s ys t (a + 1) n) 0 ≡ Some b → IsFirstUnequal xs s ys t (a + 1) n b) →
    slice_get (cond (not v) (beside xs s ys t a ∷ unequals_from xs s ys t (a + 1) n) (unequals_from xs s ys t (a + 1) n)) 0 ≡ Some b →
    IsFirstUnequal xs s ys t a (suc n) b
first_step xs s ys t a n b true e further h =
    let f = further h in
    let above = f.above in
    let below = f.below in
    record {
      place = f.place;
      is = f.is;
      above = omega (arith, above);
      below = omega (arith, below);
      differs = f.differs;
      agree = λ k le lt. elim (cases_lt a k) [
        | inl behind ↦ f.agree k (omega arith) lt
        | inr here ↦
            let at : a ≡ k = omega arith in
            subst (SameAt xs s ys t) at (one_value (slice_get xs (s + a)) (slice_get ys (t + a)) e)
      ];
    }
first_step xs s ys t a n b false e further h =
    let is : beside xs s ys t a ≡ b = cc h in
    record {
      place = a;
      is = is;
      above = omega arith;
      below = omega arith;
      differs = other_values (slice_get xs (s + a)) (slice_get ys (t + a)) (ap not e);
      agree = λ k le lt. absurd (omega arith);
    }

pub first_unequal_is : (xs : List ℤ) (s : ℕ) (ys : List ℤ) (t a n : ℕ) (b : Beside) → slice_get (unequals_from xs s ys t a n) 0 ≡ Some b →
    IsFirstUnequal xs s ys t a n b
first_unequal_is xs s ys t a zero b h = absurd (cc h)
first_unequal_is xs s ys t a (suc n) b h =
    first_step xs s ys t a n b (same_value (slice_get xs (s + a)) (slice_get ys (t + a))) refl (first_unequal_is xs s ys t (a + 1) n b) h
