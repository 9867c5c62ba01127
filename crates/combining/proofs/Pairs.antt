-- Keys and items side by side: what is changed, what is new, and what stands at a place.
use Rattle.std.proofs.Common.{◌≡◌, ℕ, zero, suc, ◌+◌, ◌<◌, ◌≤◌, List, [], ◌∷◌, ◌++◌, length, get_or, set, take, drop, Bool, true, false}
use Rattle.std.proofs.Common.{refl, sym, ap, ◌∙◌, arith, eqb, subst}
use Rattle.std.specs.Prelude.{if◌then◌else◌, ◌==◌}
use Rattle.std.specs.List.{AllByRecursion}
use Rattle.std.proofs.lemmas.List.{get_or_default}
use native.Mathlib.Numerals.{unary_clauses}
use Rattle.combining.specs.Places.{place_of}
use Rattle.combining.specs.Held.{hold, paired}

pub place_bound : (key : ℕ) (ks : List ℕ) → place_of key ks ≤ length ks
place_bound key [] = omega arith
place_bound key (k ∷ ks) = step (k == key) (place_bound key ks)
  where
    step : (b : Bool) → place_of key ks ≤ length ks → (if b then 0 else suc (place_of key ks)) ≤ suc (length ks)
    step true h = omega arith
    step false h = omega arith

module _ {X Y : Type 0} (make : ℕ → X → Y) where
  pub length_paired : (ks : List ℕ) (xs : List X) → length xs ≡ length ks → length (paired make ks xs) ≡ length ks
  length_paired [] xs h = refl
  length_paired (k ∷ ks) [] h = h
  length_paired (k ∷ ks) (x ∷ xs) h = ap suc (length_paired ks xs (omega arith))

  pub paired_more : (ks : List ℕ) (xs : List X) (i k : ℕ) (x : X) → length xs ≡ length ks → i < length ks → k ≡ get_or ks i k →
      x ≡ get_or xs i x → drop i (paired make ks xs) ≡ make k x ∷ drop (i + 1) (paired make ks xs)
  paired_more [] xs i k x n l p q = absurd (omega arith)
  paired_more (j ∷ ks) [] i k x n l p q = absurd (omega arith)
  paired_more (j ∷ ks) (y ∷ xs) zero k x n l p q = ap (λ w. w ∷ paired make ks xs) (λ i. make (sym p i) (sym q i))
  paired_more (j ∷ ks) (y ∷ xs) (suc i) k x n l p q = let e =
      simp unary_clauses at (paired_more ks xs i k x (omega arith) (omega arith) p q) in simp unary_clauses e

  -- there is an item beside each key
  pub item_at : (ks : List ℕ) (xs : List X) (i k : ℕ) → length xs ≡ length ks → i < length ks → k ≡ get_or ks i k →
      (x : X) × (drop i (paired make ks xs) ≡ make k x ∷ drop (i + 1) (paired make ks xs))
  item_at ks [] i k n l p = absurd (omega arith)
  item_at ks (y ∷ xs) i k n l p =
      let x = get_or (y ∷ xs) i y in
      (x, paired_more ks (y ∷ xs) i k x n l p (get_or_default (y ∷ xs) i y x (omega arith)))

  -- what holds of all pairs holds of one
  pub all_here : (P : Y → Type 0) (ks : List ℕ) (xs : List X) (i k : ℕ) (x : X) → length xs ≡ length ks → i < length ks →
      k ≡ get_or ks i k → x ≡ get_or xs i x → AllByRecursion P (paired make ks xs) → P (make k x)
  all_here P [] xs i k x n l p q h = absurd (omega arith)
  all_here P (j ∷ ks) [] i k x n l p q h = absurd (omega arith)
  all_here P (j ∷ ks) (y ∷ xs) zero k x n l p q h = subst (λ (w : Y). P w) (λ i. make (sym p i) (sym q i)) h.0
  all_here P (j ∷ ks) (y ∷ xs) (suc i) k x n l p q h = all_here P ks xs i k x (omega arith) (omega arith) p q h.1

  pub all_keys : (P : Y → Type 0) (Q : ℕ → Type 0) → ((k : ℕ) (x : X) → P (make k x) → Q k) → (ks : List ℕ) (xs : List X) (i : ℕ) →
      length xs ≡ length ks → i < length ks → AllByRecursion P (paired make ks xs) → Q (get_or ks i 0)
  all_keys P Q of [] xs i n l h = absurd (omega arith)
  all_keys P Q of (j ∷ ks) [] i n l h = absurd (omega arith)
  all_keys P Q of (j ∷ ks) (y ∷ xs) zero n l h = of j y h.0
  all_keys P Q of (j ∷ ks) (y ∷ xs) (suc i) n l h = all_keys P Q of ks xs i (omega arith) (omega arith) h.1

  -- the items so far, with one more that was written
  pub take_paired_set : (ks : List ℕ) (xs : List X) (i k : ℕ) (y : X) → length xs ≡ length ks → i < length ks → k ≡ get_or ks i k →
      take (i + 1) (paired make ks (set xs i y)) ≡ take i (paired make ks xs) ++ make k y ∷ []
  take_paired_set [] xs i k y n l p = absurd (omega arith)
  take_paired_set (j ∷ ks) [] i k y n l p = absurd (omega arith)
  take_paired_set (j ∷ ks) (x ∷ xs) zero k y n l p = ap (λ w. make w y ∷ []) (sym p)
  take_paired_set (j ∷ ks) (x ∷ xs) (suc i) k y n l p =
      let e = simp unary_clauses at (take_paired_set ks xs i k y (omega arith) (omega arith) p) in
      simp unary_clauses (ap (λ w. make j x ∷ w) e)

-- one more is held: a key is found by a test on pairs, and the change is one of items
module _ {X Y : Type 0} (make : ℕ → X → Y) (is : Y → Bool) (change : Y → Y) (alter : X → X) (key : ℕ) (fresh : X)
    (meant : (k : ℕ) (x : X) → is (make k x) ≡ eqb k key) (altered : (k : ℕ) (x : X) → change (make k x) ≡ make k (alter x)) where
  pub hold_at : (ks : List ℕ) (xs : List X) (x y : X) → length xs ≡ length ks → place_of key ks < length xs →
      x ≡ get_or xs (place_of key ks) x → y ≡ alter x → paired make ks (set xs (place_of key ks) y) ≡ hold is change (make key fresh)
      (paired make ks xs)
  hold_at [] xs x y n l here made = absurd (omega arith)
  hold_at (k ∷ ks) [] x y n l here made = absurd (omega arith)
  hold_at (k ∷ ks) (z ∷ xs) x y n l here made =
      step (k == key) (λ m i. hold_at ks xs x y (omega arith) m i made) l here
      ∙ sym (ap (λ (b : Bool). if b then change (make k z) ∷ paired make ks xs else make k z
      ∷ hold is change (make key fresh) (paired make ks xs)) (meant k z))
    where
      step : (b : Bool) → (place_of key ks < length xs → x ≡ get_or xs (place_of key ks) x →
          paired make ks (set xs (place_of key ks) y) ≡ hold is change (make key fresh) (paired make ks xs))
          → (if b then 0 else suc (place_of key ks)) < suc (length xs) → x ≡ get_or (z ∷ xs) (if b then 0 else suc (place_of key ks)) x
          → paired make (k ∷ ks) (set (z ∷ xs) (if b then 0 else suc (place_of key ks)) y) ≡ (if b then change (make k z)
          ∷ paired make ks xs else make k z ∷ hold is change (make key fresh) (paired make ks xs))
      step true go l here = ap (λ w. make k w ∷ paired make ks xs) (made ∙ ap alter here)
          ∙ ap (λ w. w ∷ paired make ks xs) (sym (altered k z))
      step false go l here = ap (λ w. make k z ∷ w) (go (omega arith) here)

  pub hold_new : (ks : List ℕ) (xs : List X) → length xs ≡ length ks → place_of key ks ≡ length ks → paired make (ks ++ key ∷ [])
      (xs ++ fresh ∷ []) ≡ hold is change (make key fresh) (paired make ks xs)
  hold_new [] [] n p = refl
  hold_new [] (x ∷ xs) n p = absurd (omega arith)
  hold_new (k ∷ ks) [] n p = absurd (omega arith)
  hold_new (k ∷ ks) (x ∷ xs) n p =
      step (k == key) (λ q. hold_new ks xs (omega arith) q) p
      ∙ sym (ap (λ (b : Bool). if b then change (make k x) ∷ paired make ks xs else make k x
      ∷ hold is change (make key fresh) (paired make ks xs)) (meant k x))
    where
      step : (b : Bool) → (place_of key ks ≡ length ks → paired make (ks ++ key ∷ []) (xs ++ fresh ∷ []) ≡ hold is change (make key fresh)
          (paired make ks xs)) → (if b then 0 else suc (place_of key ks)) ≡ suc (length ks)
          → make k x ∷ paired make (ks ++ key ∷ []) (xs ++ fresh ∷ []) ≡ (if b then change (make k x) ∷ paired make ks xs else make k x
          ∷ hold is change (make key fresh) (paired make ks xs))
      step true go q = absurd (omega arith)
      step false go q = ap (λ w. make k x ∷ w) (go (omega arith))
