-- Two lists whose members are related place by place, as far as they have been gone over.
use Rattle.std.proofs.Common.{◌≡◌, ℕ, zero, suc, ◌<◌, ◌≤◌, ◌+◌, List, [], ◌∷◌, ℤ, Bool, true, false, refl, sym, subst, length, get_or, ◌∙◌}
use Rattle.std.proofs.Common.{arith, tests, nat_eq}
use Rattle.std.specs.Prelude.{slice_set}
use Rattle.std.proofs.lemmas.List.{get_or-set_same, get_or-set_other}
use Rattle.intervals.specs.declared.interval.Interval.{Interval}
use Rattle.intervals.specs.Intervals.{IsWithin}
use Rattle.all_inputs.specs.Overall.{Cover}

-- the members at each place below n
abbrev pub ToEach : {A : Type 0} → (A → A → Type 0) → ℕ → List A → List A → Type 0
ToEach {A} R n xs ys = (d : ℕ) (z : A) → d < n → R (get_or xs d z) (get_or ys d z)

pub each_none : {A : Type 0} (R : A → A → Type 0) (xs ys : List A) → ToEach R 0 xs ys
each_none R xs ys = λ d z below. absurd (omega (arith, below))

pub each_same : {A : Type 0} (R : A → A → Type 0) (n : ℕ) (xs : List A) → ((x : A) → R x x) → ToEach R n xs xs
each_same R n xs same = λ d z below. same (get_or xs d z)

-- a member is set at a place, and the relation stays there
pub each_kept : {A : Type 0} (R : A → A → Type 0) (n k : ℕ) (xs ys : List A) (new : A) → ToEach R n xs ys → k < length ys →
    ((z : A) → R (get_or xs k z) (get_or ys k z) → R (get_or xs k z) new) → ToEach R n xs (slice_set ys k new)
each_kept R n k xs ys new h below step d z under = by (nat_eq d k) refl
  where
    by : (b : Bool) → nat_eq d k ≡ b → R (get_or xs d z) (get_or (slice_set ys k new) d z)
    by true e =
        let same : k ≡ d = grind (arith, tests, e) in
        subst (λ d. R (get_or xs d z) (get_or (slice_set ys k new) d z)) same
        (subst (R (get_or xs k z)) (sym (get_or-set_same ys k new z below)) (step z (h k z (omega (arith, same, under)))))
    by false e = subst (R (get_or xs d z)) (sym (get_or-set_other ys k d new z (grind (arith, tests, e)))) (h d z under)

-- one place more
pub each_next : {A : Type 0} (R : A → A → Type 0) (k : ℕ) (xs ys : List A) (new : A) → ToEach R k xs ys → k < length ys →
    ((z : A) → R (get_or xs k z) new) → ToEach R (k + 1) xs (slice_set ys k new)
each_next R k xs ys new h below here d z under = by (nat_eq d k) refl
  where
    by : (b : Bool) → nat_eq d k ≡ b → R (get_or xs d z) (get_or (slice_set ys k new) d z)
    by true e =
        let same : k ≡ d = grind (arith, tests, e) in
        subst (λ d. R (get_or xs d z) (get_or (slice_set ys k new) d z)) same
        (subst (R (get_or xs k z)) (sym (get_or-set_same ys k new z below)) (here z))
    by false e =
        subst (R (get_or xs d z)) (sym (get_or-set_other ys k d new z (grind (arith, tests, e)))) (h d z (grind (arith, tests, e, under)))

-- one place more, where nothing is set
pub each_on : {A : Type 0} (R : A → A → Type 0) (k : ℕ) (xs ys : List A) → ToEach R k xs ys →
    ((z : A) → R (get_or xs k z) (get_or ys k z)) →
    ToEach R (k + 1) xs ys
each_on R k xs ys h here d z under = by (nat_eq d k) refl
  where
    by : (b : Bool) → nat_eq d k ≡ b → R (get_or xs d z) (get_or ys d z)
    by true e =
        let same : k ≡ d = grind (arith, tests, e) in
        subst (λ d. R (get_or xs d z) (get_or ys d z)) same (here z)
    by false e = h d z (grind (arith, tests, e, under))

-- one member more in front
pub each_first : {A : Type 0} (R : A → A → Type 0) (x y : A) (xs ys : List A) (n : ℕ) → R x y → ToEach R (length xs) xs ys →
    n ≤ length (x ∷ xs) → ToEach R n (x ∷ xs) (y ∷ ys)
each_first R x y xs ys n here h past zero z below = here
each_first R x y xs ys n here h past (suc d) z below = h d z (omega (arith, below, past))

-- a default doesn't matter where there is a member
pub default_free : {A : Type 0} (xs : List A) (k : ℕ) (y z : A) → k < length xs → get_or xs k y ≡ get_or xs k z
default_free [] k y z below = absurd (omega (arith, below))
default_free (x ∷ xs) zero y z below = refl
default_free (x ∷ xs) (suc k) y z below = default_free xs k y z (omega (arith, below))

-- what is read at a place
pub member_at : {A : Type 0} (xs : List A) (k : ℕ) (one z : A) → k < length xs → one ≡ get_or xs k one → get_or xs k z ≡ one
member_at xs k one z below e = default_free xs k z one below ∙ sym e

-- what lies in some intervals lies in others that hold each of them
pub cover_each : (is js : List Interval) (zs : List ℤ) (n : ℕ) → ToEach IsWithin n is js → length is ≤ n → length is ≡ length js →
    Cover is zs → Cover js zs
cover_each [] [] [] n h past same c = tt
cover_each [] [] (z ∷ zs) n h past same c = absurd c
cover_each [] (j ∷ js) zs n h past same c = absurd (omega (arith, same))
cover_each (i ∷ is) [] zs n h past same c = absurd (omega (arith, same))
cover_each (i ∷ is) (j ∷ js) [] n h past same c = absurd c
cover_each (i ∷ is) (j ∷ js) (z ∷ zs) n h past same c = (
  h 0 i (omega (arith, past)) z c.0,
  cover_each is js zs (length is) (λ d w below. h (suc d) w (omega (arith, below, past))) (omega arith) (omega (arith, same)) c.1,
)
