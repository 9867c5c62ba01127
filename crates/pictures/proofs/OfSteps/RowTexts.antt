-- Ascending indices, and one more among them.
use Rattle.std.proofs.Common.{◌≡◌, ◌∙◌, ◌<◌, ◌≤◌, ◌+◌, ◌-◌, ◌∷◌, [], List, ℕ, ℤ, pos, Bool, true, false, ap, arith, drop, get_or}
use Rattle.std.proofs.Common.{length, refl, subst, sym}
use Rattle.std.specs.Prelude.{int_lt, insert, not}
use Rattle.std.proofs.lemmas.Grind.{common_steps}
use Rattle.std.specs.Ordering.{int_eq}
use Rattle.std.proofs.lemmas.List.Sums.{prefix_len-drop_yes, prefix_len-drop_no}
use Rattle.pictures.specs.Steps.Drawn.{ahead, inserted, offered, offered_beside, place_of}

-- ---- the place of an index

pub is_further : (xs : List ℤ) (i : ℤ) (k : ℕ) → k < length xs → int_eq (get_or xs k (pos 0)) i ≡ false →
    place_of (drop k xs) i ≡ 1 + place_of (drop (k + 1) xs) i
is_further xs i k within other = prefix_len-drop_yes (λ x. not (int_eq x i)) xs k (pos 0) within (ap not other)

pub is_here : (xs : List ℤ) (i : ℤ) (k : ℕ) → k < length xs → int_eq (get_or xs k (pos 0)) i ≡ true → place_of (drop k xs) i ≡ 0
is_here xs i k within same = prefix_len-drop_no (λ x. not (int_eq x i)) xs k (pos 0) within (ap not same)

-- ---- where one more goes

less_ahead : (x : ℤ) (xs : List ℤ) (i : ℤ) → int_lt x i ≡ true → ahead (x ∷ xs) i ≡ 1 + ahead xs i
less_ahead x xs i less = rw less

more_ahead : (x : ℤ) (xs : List ℤ) (i : ℤ) → int_lt x i ≡ false → ahead (x ∷ xs) i ≡ 0
more_ahead x xs i more = rw more

pub less_inserted : (x : ℤ) (xs : List ℤ) (i : ℤ) → int_lt x i ≡ true → inserted i (x ∷ xs) ≡ x ∷ inserted i xs
less_inserted x xs i less = rw less

pub same_inserted : (x : ℤ) (xs : List ℤ) (i : ℤ) → int_lt x i ≡ false → int_lt i x ≡ false → inserted i (x ∷ xs) ≡ x ∷ xs
same_inserted x xs i less more = rw less (rw more)

pub more_inserted : (x : ℤ) (xs : List ℤ) (i : ℤ) → int_lt x i ≡ false → int_lt i x ≡ true → inserted i (x ∷ xs) ≡ i ∷ (x ∷ xs)
more_inserted x xs i less more = rw less (rw more)

other : (x i : ℤ) → int_lt x i ≡ false → int_lt i x ≡ true → int_eq x i ≡ false
other x i less more = rw less (rw more)

pub same : (x i : ℤ) → int_lt x i ≡ false → int_lt i x ≡ false → int_eq x i ≡ true
same x i less more = rw less (rw more)

there_by : (x : ℤ) (xs : List ℤ) (i : ℤ) (b : Bool) → int_lt x i ≡ false → int_lt i x ≡ b → int_eq x i ≡ true →
    x ∷ xs ≡ inserted i (x ∷ xs)
there_by x xs i true less more is = absurd (let a = other x i less more in grind (arith, common_steps))
there_by x xs i false less more is = sym (same_inserted x xs i less more)

there : (x : ℤ) (xs : List ℤ) (i : ℤ) (b : Bool) →
    (ahead xs i < length xs → int_eq (get_or xs (ahead xs i) (pos 0)) i ≡ true → xs ≡ inserted i xs) →
    int_lt x i ≡ b → ahead (x ∷ xs) i < length (x ∷ xs) →
    int_eq (get_or (x ∷ xs) (ahead (x ∷ xs) i) (pos 0)) i ≡ true → x ∷ xs ≡ inserted i (x ∷ xs)
there x xs i true rest less within is =
    let one = less_ahead x xs i less in
    let inner : ahead xs i < length xs = omega (arith, one, within) in
    let here = subst (λ n. int_eq (get_or (x ∷ xs) n (pos 0)) i ≡ true) one is in
    let same : int_eq (get_or xs (ahead xs i) (pos 0)) i ≡ true = grind (arith, common_steps, here) in
    ap (λ ys. x ∷ ys) (rest inner same) ∙ sym (less_inserted x xs i less)
there x xs i false rest less within is =
    there_by x xs i (int_lt i x) less refl (subst (λ n. int_eq (get_or (x ∷ xs) n (pos 0)) i ≡ true) (more_ahead x xs i less) is)

pub is_there : (xs : List ℤ) (i : ℤ) → ahead xs i < length xs → int_eq (get_or xs (ahead xs i) (pos 0)) i ≡ true → xs ≡ inserted i xs
is_there [] i within is = absurd (omega (arith, within))
is_there (x ∷ xs) i within is = there x xs i (int_lt x i) (is_there xs i) refl within is

goes_by : (x : ℤ) (xs : List ℤ) (i : ℤ) (b : Bool) → int_lt x i ≡ false → int_lt i x ≡ b → int_eq x i ≡ false →
    i ∷ (x ∷ xs) ≡ inserted i (x ∷ xs)
goes_by x xs i true less more is = sym (more_inserted x xs i less more)
goes_by x xs i false less more is = absurd (let a = same x i less more in grind (arith, common_steps))

goes_at : (x : ℤ) (xs : List ℤ) (i : ℤ) (b : Bool) →
    ((ahead xs i < length xs → int_eq (get_or xs (ahead xs i) (pos 0)) i ≡ false) → insert xs (ahead xs i) i ≡ inserted i xs) →
    int_lt x i ≡ b → (ahead (x ∷ xs) i < length (x ∷ xs) → int_eq (get_or (x ∷ xs) (ahead (x ∷ xs) i) (pos 0)) i ≡ false) →
    insert (x ∷ xs) (ahead (x ∷ xs) i) i ≡ inserted i (x ∷ xs)
goes_at x xs i true rest less f =
    let one = less_ahead x xs i less in
    let inner : ahead xs i < length xs → int_eq (get_or xs (ahead xs i) (pos 0)) i ≡ false =
    λ within. (let here = subst (λ n. int_eq (get_or (x ∷ xs) n (pos 0)) i ≡ false) one (f (omega (arith, one, within))) in
    grind (arith, common_steps, here)) in
    let shifted : insert (x ∷ xs) (1 + ahead xs i) i ≡ x ∷ insert xs (ahead xs i) i = grind (arith, common_steps) in
    ap (λ n. insert (x ∷ xs) n i) one ∙ shifted ∙ ap (λ ys. x ∷ ys) (rest inner) ∙ sym (less_inserted x xs i less)
goes_at x xs i false rest less f =
    let none = more_ahead x xs i less in
    let first : 0 < length (x ∷ xs) = omega arith in
    let is = subst (λ n. int_eq (get_or (x ∷ xs) n (pos 0)) i ≡ false) none (f (omega (arith, none, first))) in
    ap (λ n. insert (x ∷ xs) n i) none ∙ goes_by x xs i (int_lt i x) less refl is

pub goes : (xs : List ℤ) (i : ℤ) → (ahead xs i < length xs → int_eq (get_or xs (ahead xs i) (pos 0)) i ≡ false) →
    insert xs (ahead xs i) i ≡ inserted i xs
goes [] i f = refl
goes (x ∷ xs) i f = goes_at x xs i (int_lt x i) (goes xs i) refl f

-- ---- the same at a place that is known to be that

pub there_at : (xs : List ℤ) (i : ℤ) (n : ℕ) (b : Bool) → n ≡ ahead xs i → n < length xs → b ≡ int_eq (get_or xs n (pos 0)) i → b ≡ true →
    xs ≡ inserted i xs
there_at xs i n b is within test holds =
    is_there xs i (omega (arith, is, within)) (subst (λ m. int_eq (get_or xs m (pos 0)) i ≡ true) is (sym test ∙ holds))

pub goes_in : (xs : List ℤ) (i : ℤ) (n : ℕ) → n ≡ ahead xs i → (n < length xs → int_eq (get_or xs n (pos 0)) i ≡ false) →
    insert xs n i ≡ inserted i xs
goes_in xs i n is f =
    ap (λ m. insert xs m i) is
    ∙ goes xs i (λ within. subst (λ m. int_eq (get_or xs m (pos 0)) i ≡ false) is (f (omega (arith, is, within))))

-- ---- one beside those that have a row

pub beside_those : (those xs : List ℤ) (i : ℤ) (n : ℕ) → n ≡ place_of those i → n < length those → xs ≡ offered_beside those xs i
beside_those those xs i n is within =
    let at : place_of those i < length those = omega (arith, is, within) in
    grind (arith, common_steps, at)

pub beside_others : (those xs : List ℤ) (i : ℤ) (n : ℕ) → n ≡ place_of those i → length those ≤ n →
    offered (64 - length those) xs i ≡ offered_beside those xs i
beside_others those xs i n is past =
    let at : length those ≤ place_of those i = omega (arith, is, past) in
    grind (arith, common_steps, at)
