-- Sums of numbers over lists and ranges.
use Rattle.std.proofs.Common.{◌≡◌, ℕ, zero, suc, ◌+◌, ◌*◌, ◌<◌, ◌≤◌, List, [], ◌∷◌, length, Bool, true, false, eqb, refl, ap, ◌∙◌}
use Rattle.std.proofs.Common.{arith}
use Rattle.std.specs.Prelude.{if◌then◌else◌}
use Rattle.std.specs.List.{filter, range_with_len}
use Rattle.pram_values.specs.Total.{IsMonoid, total}
use Rattle.pram_values.proofs.Totals.{total_same, total_both, total_none}
use Rattle.superstep_machine.specs.Words.{bit}
use Rattle.superstep_machine.proofs.Numbers.{same_number}
use Rattle.std.proofs.lemmas.Bool.{ne_eqb}

abbrev pub added : {A : Type 0} → (A → ℕ) → List A → ℕ
added f xs = total 0 (λ a b. a + b) f xs

pub numbers_are_monoid : IsMonoid ℕ 0 (λ a b. a + b)
numbers_are_monoid = record {
  neutral = λ x. let e : 0 + x ≡ x = omega arith in e;
  associative = λ x y z. let e : (x + y) + z ≡ x + (y + z) = omega arith in e;
  commutative = λ x y. let e : x + y ≡ y + x = omega arith in e;
}

pub added_both : {A : Type 0} (f g : A → ℕ) (xs : List A) → added (λ x. f x + g x) xs ≡ added f xs + added g xs
added_both f g xs = total_both 0 (λ a b. a + b) numbers_are_monoid f g xs

-- terms that are at most others
pub added_most : {A : Type 0} (f g : A → ℕ) (xs : List A) → ((x : A) → f x ≤ g x) → added f xs ≤ added g xs
added_most f g [] h = let e : 0 ≤ 0 = omega arith in e
added_most f g (x ∷ xs) h = let a = h x in let b = added_most f g xs h in omega (arith, a, b)

-- and within a range
pub added_within : (f g : ℕ → ℕ) (n k : ℕ) → ((w : ℕ) → w < k + n → f w ≤ g w) →
    added f (range_with_len k n) ≤ added g (range_with_len k n)
added_within f g zero k h = let e : 0 ≤ 0 = omega arith in e
added_within f g (suc n) k h =
    let a = h k (omega arith) in
    let b = added_within f g n (k + 1) (λ w l. h w (omega (arith, l))) in
    omega (arith, a, b)

pub added_nothing : (n k : ℕ) → added (λ w. 0) (range_with_len k n) ≡ 0
added_nothing n k = total_none 0 (λ a b. a + b) numbers_are_monoid (λ w. 0) (λ w. refl) (range_with_len k n)

-- the same term n times
pub added_again : (c n k : ℕ) → added (λ w. c) (range_with_len k n) ≡ c * n
added_again c zero k = let e : 0 ≡ c * 0 = omega arith in e
added_again c (suc n) k = let h = added_again c n (k + 1) in let e : c * suc n ≡ c + c * n = omega arith in omega (arith, h, e)

-- so many times each term
pub added_times : {A : Type 0} (c : ℕ) (f : A → ℕ) (xs : List A) → added (λ x. c * f x) xs ≡ c * added f xs
added_times c f [] = let e : 0 ≡ c * 0 = omega arith in e
added_times c f (x ∷ xs) =
    let h = added_times c f xs in
    let e : c * (f x + added f xs) ≡ c * f x + c * added f xs = omega arith in
    omega (arith, h, e)

-- ---- those that pass a test

pub passed : {A : Type 0} (test : A → Bool) (xs : List A) → length (filter test xs) ≡ added (λ x. bit (test x)) xs
passed test [] = refl
passed test (x ∷ xs) = go (test x) (passed test xs)
  where
    go : (b : Bool) → length (filter test xs) ≡ added (λ y. bit (test y)) xs →
        length (if b then x ∷ filter test xs else filter test xs) ≡ bit b + added (λ y. bit (test y)) xs
    go true h = omega (arith, h)
    go false h = omega (arith, h)

-- a number is at most once in a range
abbrev here : ℕ → ℕ → ℕ
here c w = bit (eqb c w)

after_it : (c n k : ℕ) → c < k → added (here c) (range_with_len k n) ≡ 0
after_it c zero k h = refl
after_it c (suc n) k h =
    let apart : eqb c k ≡ false = ne_eqb c k (omega (arith, h)) in
    let rest = after_it c n (k + 1) (omega (arith, h)) in
    let first : bit (eqb c k) ≡ 0 = ap bit apart in
    omega (arith, first, rest)

pub once : (c n k : ℕ) → added (here c) (range_with_len k n) ≤ 1
once c zero k = let e : 0 ≤ 1 = omega arith in e
once c (suc n) k = go (once c n (k + 1)) (eqb c k) refl
  where
    go : added (here c) (range_with_len (k + 1) n) ≤ 1 → (b : Bool) → eqb c k ≡ b → bit b + added (here c) (range_with_len (k + 1) n) ≤ 1
    go others true e =
        let same : c ≡ k = same_number c k e in
        let rest = after_it c n (k + 1) (omega (arith, same)) in
        omega (arith, rest)
    go others false e = omega (arith, others)

-- the items of all classes below n are no more than there are
pub classes : {A : Type 0} (class : A → ℕ) (n : ℕ) (xs : List A) →
    added (λ j. length (filter (λ x. eqb (class x) j) xs)) (range_with_len 0 n) ≤ length xs
classes class n [] = let e = added_nothing n 0 in omega (arith, e)
classes class n (x ∷ xs) =
    let rest = classes class n xs in
    let one = once (class x) n 0 in
    let split : added (λ j. length (filter (λ y. eqb (class y) j) (x ∷ xs))) (range_with_len 0 n)
    ≡ added (here (class x)) (range_with_len 0 n) + added (λ j. length (filter (λ y. eqb (class y) j) xs)) (range_with_len 0 n) =
    total_same 0 (λ a b. a + b) (λ j. length (filter (λ y. eqb (class y) j) (x ∷ xs)))
    (λ j. here (class x) j + length (filter (λ y. eqb (class y) j) xs)) (λ j. go j (eqb (class x) j)) (range_with_len 0 n)
    ∙ added_both (here (class x)) (λ j. length (filter (λ y. eqb (class y) j) xs)) (range_with_len 0 n) in
    omega (arith, rest, one, split)
  where
    go : (j : ℕ) (b : Bool) → length (if b then x ∷ filter (λ y. eqb (class y) j) xs else filter (λ y. eqb (class y) j) xs)
        ≡ bit b + length (filter (λ y. eqb (class y) j) xs)
    go j true = omega arith
    go j false = omega arith
