-- Marks outside an interval, and the nearest of them.
use Rattle.std.proofs.Common.{◌≡◌, ℤ, ℕ, pos, negsuc, zero, suc, Bool, true, false, cond, ◌||◌, List, [], ◌∷◌, length, take, get_or, ◌<◌, ◌≤◌, ◌+◌, ◌≤ℤ◌, ◌<ℤ◌, ◌⊎◌, inl, inr, arith, refl, sym, ap, ◌∙◌, subst}
use Rattle.std.specs.Prelude.{int_lt}
use Rattle.std.specs.List.{All, Contains, filter}
use Rattle.std.proofs.lemmas.Int.{ints, by_lt_z}
use Rattle.std.proofs.lemmas.List.Elements.{All-more, All-weaker, Contains-get_or}
use Rattle.std.proofs.lemmas.List.{take_all}
use Rattle.intervals.specs.declared.interval.Interval.{Interval}
use Rattle.intervals.specs.Intervals.{IsIn, IsWithin}
use Rattle.intervals.specs.Widening.{IsMarkBelow, IsMarkAbove, is_outside, marks_outside}
use Rattle.intervals.proofs.Joins.{least_in, greatest_in}

module _ (p q : ℤ → Bool) (weaker : (m : ℤ) → p m ≡ true → q m ≡ true) where
  few_step : (x : ℤ) (xs : List ℤ) (v w : Bool) → (v ≡ true → w ≡ true) → length (filter p xs) ≤ length (filter q xs)
      → length (cond v (x ∷ filter p xs) (filter p xs)) ≤ length (cond w (x ∷ filter q xs) (filter q xs))
  few_step x xs true true h k = omega arith
  few_step x xs true false h k = let e : false ≡ true = h refl in absurd (cc)
  few_step x xs false true h k = omega arith
  few_step x xs false false h k = k

  few : (xs : List ℤ) → length (filter p xs) ≤ length (filter q xs)
  few [] = omega arith
  few (x ∷ xs) = few_step x xs (p x) (q x) (weaker x) (few xs)

  fewer_here : (x : ℤ) (xs : List ℤ) (v w : Bool) → v ≡ false → w ≡ true → length (filter p xs) ≤ length (filter q xs)
      → length (cond v (x ∷ filter p xs) (filter p xs)) < length (cond w (x ∷ filter q xs) (filter q xs))
  fewer_here x xs v w h k l = rw (h, k) (omega arith)

  fewer_step : (x : ℤ) (xs : List ℤ) (v w : Bool) → (v ≡ true → w ≡ true) → length (filter p xs) < length (filter q xs)
      → length (cond v (x ∷ filter p xs) (filter p xs)) < length (cond w (x ∷ filter q xs) (filter q xs))
  fewer_step x xs true true h k = omega arith
  fewer_step x xs true false h k = let e : false ≡ true = h refl in absurd (cc)
  fewer_step x xs false true h k = omega arith
  fewer_step x xs false false h k = k

  fewer : (xs : List ℤ) (m : ℤ) (k : ℕ) → k < length xs → get_or xs k m ≡ m → p m ≡ false → q m ≡ true → length (filter p xs) < length (filter q xs)
  fewer [] m k l e h n = absurd (omega arith)
  fewer (x ∷ xs) m zero l e h n = let s : x ≡ m = e in fewer_here x xs (p x) (q x) (ap p s ∙ h) (ap q s ∙ n) (few xs)
  fewer (x ∷ xs) m (suc k) l e h n = fewer_step x xs (p x) (q x) (weaker x) (fewer xs m k (omega arith) e h n)

-- ---- what is outside

outside_below : (i : Interval) (m : ℤ) → m <ℤ i.least → is_outside i m ≡ true
outside_below i m h = let e : int_lt m i.least ≡ true = grind (arith, ints) in rw e

or_right : (v w : Bool) → w ≡ true → (v || w) ≡ true
or_right true w h = refl
or_right false w h = h

outside_above : (i : Interval) (m : ℤ) → i.greatest <ℤ m → is_outside i m ≡ true
outside_above i m h = let e : int_lt i.greatest m ≡ true = grind (arith, ints) in or_right (int_lt m i.least) (int_lt i.greatest m) e

inside_not : (i : Interval) (m : ℤ) → IsIn m i → is_outside i m ≡ false
inside_not i m h =
    let k : i.least ≤ℤ m = h.least in
    let l : m ≤ℤ i.greatest = h.greatest in
    let e : int_lt m i.least ≡ false = grind (arith, ints) in
    let f : int_lt i.greatest m ≡ false = grind (arith, ints) in rw (e, f)

outside_by : (i j : Interval) (m : ℤ) (v : Bool) → int_lt m i.least ≡ v → IsWithin j i → (v || int_lt i.greatest m) ≡ true → is_outside j m ≡ true
outside_by i j m true e w h =
    let k : IsIn j.least i = w j.least (least_in j) in
    let l : i.least ≤ℤ j.least = k.least in
    let n : m <ℤ i.least = grind (arith, ints) in
    outside_below j m (omega (arith, ints))
outside_by i j m false e w h =
    let k : IsIn j.greatest i = w j.greatest (greatest_in j) in
    let l : j.greatest ≤ℤ i.greatest = k.greatest in
    let n : i.greatest <ℤ m = grind (arith, ints) in
    outside_above j m (omega (arith, ints))

-- what is outside an interval is outside one within it
outside_weaker : (i j : Interval) → IsWithin j i → (m : ℤ) → is_outside i m ≡ true → is_outside j m ≡ true
outside_weaker i j w m h = outside_by i j m (int_lt m i.least) refl w h

in_marks : (marks : List ℤ) (m : ℤ) → Contains marks m → Contains (negsuc 9223372036854775807 ∷ (pos 9223372036854775807 ∷ marks)) m
in_marks marks m c = (suc (suc c.0), omega (arith, c.1), c.2)

moved_fewer : (old r : Interval) (marks : List ℤ) (m : ℤ) → IsWithin old r → IsIn m r → is_outside old m ≡ true
    → Contains (negsuc 9223372036854775807 ∷ (pos 9223372036854775807 ∷ marks)) m → marks_outside marks r < marks_outside marks old
moved_fewer old r marks m w h o c =
    fewer (is_outside r) (is_outside old) (outside_weaker r old w) (negsuc 9223372036854775807 ∷ (pos 9223372036854775807 ∷ marks)) m c.0 c.1 c.2 (inside_not r m h) o

lower_one : (marks : List ℤ) (m : ℤ) → (m ≡ negsuc 9223372036854775807) ⊎ Contains marks m
    → Contains (negsuc 9223372036854775807 ∷ (pos 9223372036854775807 ∷ marks)) m
lower_one marks m o = elim o [ inl e ↦ (zero, omega arith, sym e) | inr c ↦ in_marks marks m c ]

upper_one : (marks : List ℤ) (m : ℤ) → (m ≡ pos 9223372036854775807) ⊎ Contains marks m
    → Contains (negsuc 9223372036854775807 ∷ (pos 9223372036854775807 ∷ marks)) m
upper_one marks m o = elim o [ inl e ↦ (suc zero, omega arith, sym e) | inr c ↦ in_marks marks m c ]

pub fewer_outside : (old new r : Interval) (marks : List ℤ) → IsWithin old r
    → (new.least <ℤ old.least → IsMarkBelow marks new.least r.least) → (old.greatest <ℤ new.greatest → IsMarkAbove marks new.greatest r.greatest)
    → IsWithin new old ⊎ (marks_outside marks r < marks_outside marks old)
fewer_outside old new r marks w low high =
    by_lt_z new.least old.least
    (λ l. let b = low l in let s : r.least ≤ℤ new.least = b.at_most in
    inr (moved_fewer old r marks r.least w (least_in r) (outside_below old r.least (omega (arith, ints))) (lower_one marks r.least b.is_one)))
    (λ h. by_lt_z old.greatest new.greatest
    (λ l. let b = high l in let s : new.greatest ≤ℤ r.greatest = b.at_least in
    inr (moved_fewer old r marks r.greatest w (greatest_in r) (outside_above old r.greatest (omega (arith, ints))) (upper_one marks r.greatest b.is_one)))
    (λ k. inl (λ x m. record { least = omega (arith, ints); greatest = omega (arith, ints) })))

-- ---- the nearest mark below

pub low_more : (marks : List ℤ) (i : ℕ) (value found mark next raw : ℤ) → i < length marks → mark ≡ get_or marks i (pos 0) → next ≡ raw
    → raw ≤ℤ value → (raw ≡ found) ⊎ (raw ≡ mark) → found ≤ℤ raw → (mark ≤ℤ value → mark ≤ℤ raw)
    → (found ≡ negsuc 9223372036854775807) ⊎ Contains marks found → All (λ m. m ≤ℤ value → m ≤ℤ found) (take i marks)
    → (next ≤ℤ value) × (((next ≡ negsuc 9223372036854775807) ⊎ Contains marks next) × All (λ m. m ≤ℤ value → m ≤ℤ next) (take (i + 1) marks))
low_more marks i value found mark next raw l e f a o k n c p =
    let here : Contains marks mark = subst (Contains marks) (sym e) (Contains-get_or marks i (pos 0) l) in
    let old : All (λ m. m ≤ℤ value → m ≤ℤ next) (take i marks) =
    All-weaker (λ m. m ≤ℤ value → m ≤ℤ found) (λ m. m ≤ℤ value → m ≤ℤ next) (λ m g h. let q : m ≤ℤ found = g h in omega (arith, ints)) (take i marks) p in
    let new : get_or marks i (pos 0) ≤ℤ value → get_or marks i (pos 0) ≤ℤ next =
    λ h. let q : mark ≤ℤ raw = n (subst (λ z. z ≤ℤ value) (sym e) h) in omega (arith, ints) in (
      omega (arith, ints),
      (
        elim o [
          | inl s ↦ elim c [ inl t ↦ inl (f ∙ s ∙ t) | inr t ↦ inr (subst (Contains marks) (sym (f ∙ s)) t) ]
          | inr s ↦ inr (subst (Contains marks) (sym (f ∙ s)) here)
        ],
        All-more (λ m. m ≤ℤ value → m ≤ℤ next) marks i (pos 0) l old new,
      ),
    )

pub low_done : (marks : List ℤ) (i : ℕ) (value found : ℤ) → length marks ≤ i
    → (found ≤ℤ value) × (((found ≡ negsuc 9223372036854775807) ⊎ Contains marks found) × All (λ m. m ≤ℤ value → m ≤ℤ found) (take i marks)) → IsMarkBelow marks value found
low_done marks i value found l h = record {
  at_most = h.0;
  is_one = h.1.0;
  nearest = rw (take_all i marks l) at h.1.1;
}

-- ---- the nearest mark above

pub high_more : (marks : List ℤ) (i : ℕ) (value found mark next raw : ℤ) → i < length marks → mark ≡ get_or marks i (pos 0) → next ≡ raw
    → value ≤ℤ raw → (raw ≡ found) ⊎ (raw ≡ mark) → raw ≤ℤ found → (value ≤ℤ mark → raw ≤ℤ mark)
    → (found ≡ pos 9223372036854775807) ⊎ Contains marks found → All (λ m. value ≤ℤ m → found ≤ℤ m) (take i marks)
    → (value ≤ℤ next) × (((next ≡ pos 9223372036854775807) ⊎ Contains marks next) × All (λ m. value ≤ℤ m → next ≤ℤ m) (take (i + 1) marks))
high_more marks i value found mark next raw l e f a o k n c p =
    let here : Contains marks mark = subst (Contains marks) (sym e) (Contains-get_or marks i (pos 0) l) in
    let old : All (λ m. value ≤ℤ m → next ≤ℤ m) (take i marks) =
    All-weaker (λ m. value ≤ℤ m → found ≤ℤ m) (λ m. value ≤ℤ m → next ≤ℤ m) (λ m g h. let q : found ≤ℤ m = g h in omega (arith, ints)) (take i marks) p in
    let new : value ≤ℤ get_or marks i (pos 0) → next ≤ℤ get_or marks i (pos 0) =
    λ h. let q : raw ≤ℤ mark = n (subst (λ z. value ≤ℤ z) (sym e) h) in omega (arith, ints) in (
      omega (arith, ints),
      (
        elim o [
          | inl s ↦ elim c [ inl t ↦ inl (f ∙ s ∙ t) | inr t ↦ inr (subst (Contains marks) (sym (f ∙ s)) t) ]
          | inr s ↦ inr (subst (Contains marks) (sym (f ∙ s)) here)
        ],
        All-more (λ m. value ≤ℤ m → next ≤ℤ m) marks i (pos 0) l old new,
      ),
    )

pub high_done : (marks : List ℤ) (i : ℕ) (value found : ℤ) → length marks ≤ i
    → (value ≤ℤ found) × (((found ≡ pos 9223372036854775807) ⊎ Contains marks found) × All (λ m. value ≤ℤ m → found ≤ℤ m) (take i marks)) → IsMarkAbove marks value found
high_done marks i value found l h = record {
  at_least = h.0;
  is_one = h.1.0;
  nearest = rw (take_all i marks l) at h.1.1;
}
