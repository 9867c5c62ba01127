-- The first item of a list, and lists from a place on.
use Rattle.std.proofs.Common.{◌≡◌, ℕ, zero, suc, ◌+◌, ◌<◌, ◌≤◌, Bool, true, false, cond, Option, Some, None, List, [], ◌∷◌, ◌++◌, length}
use Rattle.std.proofs.Common.{get_or, map, take, drop}
use Rattle.std.proofs.Common.{refl, ap, subst, sym, ◌∙◌, arith}
use Rattle.std.specs.List.{Contains, cons_option, filter, filter_map, find, flat_map}
use Rattle.std.specs.Option.{option_map, option_or}
use Rattle.std.specs.Prelude.{is_some, slice_get}

-- ---- the first item

pub first_append : {X : Type 0} (xs ys : List X) → slice_get (xs ++ ys) 0 ≡ option_or (slice_get xs 0) (slice_get ys 0)
first_append [] ys = refl
first_append (x ∷ xs) ys = refl

pub first_map : {X Y : Type 0} (f : X → Y) (xs : List X) → slice_get (map f xs) 0 ≡ option_map f (slice_get xs 0)
first_map f [] = refl
first_map f (x ∷ xs) = refl

pub first_none : {X : Type 0} (xs : List X) → slice_get xs 0 ≡ None → xs ≡ []
first_none [] h = refl
first_none (x ∷ xs) h = absurd (let P : Some x ≡ None → ⊥ = λ k. cc in P h)

pub or_some : {X : Type 0} (o p : Option X) → is_some o ≡ true → option_or o p ≡ o
or_some None p h = absurd (let P : false ≡ true → ⊥ = λ k. cc in P h)
or_some (Some x) p h = refl

pub or_none : {X : Type 0} (o p : Option X) → is_some o ≡ false → option_or o p ≡ p
or_none None p h = refl
or_none (Some x) p h = absurd (let P : true ≡ false → ⊥ = λ k. cc in P h)

-- ---- from a place on

pub there : {X : Type 0} (xs : List X) (i : ℕ) → i < length xs → (x : X) × (slice_get xs i ≡ Some x)
there [] i lt = absurd (omega (arith, lt))
there (x ∷ xs) zero lt = (x, refl)
there (x ∷ xs) (suc i) lt = there xs i (omega (arith, lt))

pub flat_from : {X Y : Type 0} (f : X → List Y) (xs : List X) (i : ℕ) (x : X) → slice_get xs i ≡ Some x →
    flat_map f (drop i xs) ≡ f x ++ flat_map f (drop (suc i) xs)
flat_from f [] i x at = absurd (let P : None ≡ Some x → ⊥ = λ k. cc in P at)
flat_from f (y ∷ ys) zero x at = let e : y ≡ x = cc at in ap (λ z. f z ++ flat_map f ys) e
flat_from f (y ∷ ys) (suc i) x at = flat_from f ys i x at

pub chosen_from : {X Y : Type 0} (h : X → Option Y) (xs : List X) (i : ℕ) (x : X) → slice_get xs i ≡ Some x →
    filter_map h (drop i xs) ≡ cons_option (h x) (filter_map h (drop (suc i) xs))
chosen_from h [] i x at = absurd (let P : None ≡ Some x → ⊥ = λ k. cc in P at)
chosen_from h (y ∷ ys) zero x at = let e : y ≡ x = cc at in ap (λ z. cons_option (h z) (filter_map h ys)) e
chosen_from h (y ∷ ys) (suc i) x at = chosen_from h ys i x at

cons_behind : {Y : Type 0} (o : Option Y) (ys zs : List Y) → cons_option o (ys ++ zs) ≡ cons_option o ys ++ zs
cons_behind None ys zs = refl
cons_behind (Some y) ys zs = refl

pub chosen_until : {X Y : Type 0} (h : X → Option Y) (xs : List X) (i : ℕ) (x : X) → slice_get xs i ≡ Some x →
    filter_map h (take (suc i) xs) ≡ filter_map h (take i xs) ++ cons_option (h x) []
chosen_until h [] i x at = absurd (let P : None ≡ Some x → ⊥ = λ k. cc in P at)
chosen_until h (y ∷ ys) zero x at = let e : y ≡ x = cc at in ap (λ z. cons_option (h z) []) e
chosen_until h (y ∷ ys) (suc i) x at =
    ap (cons_option (h y)) (chosen_until h ys i x at) ∙ cons_behind (h y) (filter_map h (take i ys)) (cons_option (h x) [])

-- ---- the first that passes a test

pub find_here : {X : Type 0} (test : X → Bool) (xs : List X) (i : ℕ) (x : X) → slice_get xs i ≡ Some x → test x ≡ true →
    find test (drop i xs) ≡ Some x
find_here test [] i x at h = absurd (let P : None ≡ Some x → ⊥ = λ k. cc in P at)
find_here test (y ∷ ys) zero x at h =
    let e : y ≡ x = cc at in ap (λ b. cond b (Some y) (find test ys)) (ap test e ∙ h) ∙ ap Some e
find_here test (y ∷ ys) (suc i) x at h = find_here test ys i x at h

pub find_behind : {X : Type 0} (test : X → Bool) (xs : List X) (i : ℕ) (x : X) → slice_get xs i ≡ Some x → test x ≡ false →
    find test (drop i xs) ≡ find test (drop (suc i) xs)
find_behind test [] i x at h = absurd (let P : None ≡ Some x → ⊥ = λ k. cc in P at)
find_behind test (y ∷ ys) zero x at h =
    let e : y ≡ x = cc at in ap (λ b. cond b (Some y) (find test ys)) (ap test e ∙ h)
find_behind test (y ∷ ys) (suc i) x at h = find_behind test ys i x at h

pub find_append : {X : Type 0} (test : X → Bool) (xs ys : List X) → find test (xs ++ ys) ≡ option_or (find test xs) (find test ys)
find_append test [] ys = refl
find_append test (x ∷ xs) ys =
    elim (test x) as (λ b. cond b (Some x) (find test (xs ++ ys)) ≡ option_or (cond b (Some x) (find test xs)) (find test ys)) [
      | true ↦ refl
      | false ↦ find_append test xs ys
    ]

pub or_map : {X Y : Type 0} (f : X → Y) (o p : Option X) → option_map f (option_or o p) ≡ option_or (option_map f o) (option_map f p)
or_map f None p = refl
or_map f (Some x) p = refl

-- ---- a step further

pub drop_over : {X : Type 0} (xs : List X) (i : ℕ) → length xs ≤ i → drop i xs ≡ []
drop_over [] zero le = refl
drop_over [] (suc i) le = refl
drop_over (x ∷ xs) zero le = absurd (omega (arith, le))
drop_over (x ∷ xs) (suc i) le = drop_over xs i (omega (arith, le))

pub take_over : {X : Type 0} (xs : List X) (i : ℕ) → length xs ≤ i → take i xs ≡ xs
take_over [] zero le = refl
take_over [] (suc i) le = refl
take_over (x ∷ xs) zero le = absurd (omega (arith, le))
take_over (x ∷ xs) (suc i) le = ap (λ ys. x ∷ ys) (take_over xs i (omega (arith, le)))

pub first_from : {X Y : Type 0} (f : X → List Y) (xs : List X) (i : ℕ) (x : X) → slice_get xs i ≡ Some x →
    slice_get (flat_map f (drop i xs)) 0 ≡ option_or (slice_get (f x) 0) (slice_get (flat_map f (drop (i + 1) xs)) 0)
first_from f xs i x at =
    let up : suc i ≡ i + 1 = omega arith in
    ap (λ ys. slice_get ys 0) (flat_from f xs i x at) ∙ first_append (f x) (flat_map f (drop (suc i) xs))
    ∙ ap (λ k. option_or (slice_get (f x) 0) (slice_get (flat_map f (drop k xs)) 0)) up

pub find_cons : {X : Type 0} (test : X → Bool) (o : Option X) (ys : List X) →
    find test (cons_option o ys) ≡ option_or (find test (cons_option o [])) (find test ys)
find_cons test None ys = refl
find_cons test (Some x) ys = find_append test (x ∷ []) ys

pub at_get : {X : Type 0} (xs : List X) (i : ℕ) (d : X) → i < length xs → slice_get xs i ≡ Some (get_or xs i d)
at_get [] i d lt = absurd (omega (arith, lt))
at_get (x ∷ xs) zero d lt = refl
at_get (x ∷ xs) (suc i) d lt = at_get xs i d (omega (arith, lt))

pub until : {X : Type 0} (xs : List X) (i : ℕ) (x : X) → slice_get xs i ≡ Some x → take (i + 1) xs ≡ take i xs ++ x ∷ []
until xs i x at = let up : i + 1 ≡ suc i = omega arith in ap (λ k. take k xs) up ∙ taken xs i x at
  where
    taken : {X : Type 0} (xs : List X) (i : ℕ) (x : X) → slice_get xs i ≡ Some x → take (suc i) xs ≡ take i xs ++ x ∷ []
    taken [] i x at = absurd (let P : None ≡ Some x → ⊥ = λ k. cc in P at)
    taken (y ∷ ys) zero x at = let e : y ≡ x = cc at in ap (λ z. z ∷ []) e
    taken (y ∷ ys) (suc i) x at = ap (λ zs. y ∷ zs) (taken ys i x at)

-- ---- those that pass a test

pub behind : {X : Type 0} (x y : X) (xs : List X) → Contains xs y → Contains (x ∷ xs) y
behind x y xs (k, lt, e) = (suc k, omega arith, e)

in_step : {X : Type 0} (t : X → Bool) (a x : X) (xs : List X) (b : Bool) → Contains (filter t xs) x →
    Contains (cond b (a ∷ filter t xs) (filter t xs)) x
in_step t a x xs true h = behind a x (filter t xs) h
in_step t a x xs false h = h

pub in_filter : {X : Type 0} (t : X → Bool) (xs : List X) (x : X) → Contains xs x → t x ≡ true → Contains (filter t xs) x
in_filter t [] x (k, lt, e) h = absurd (omega arith)
in_filter t (a ∷ xs) x (zero, lt, e) h =
    subst (λ (b : Bool). Contains (cond b (a ∷ filter t xs) (filter t xs)) x) (sym (ap t e ∙ h)) (0, omega arith, e)
in_filter t (a ∷ xs) x (suc k, lt, e) h = in_step t a x xs (t a) (in_filter t xs x (k, omega arith, e) h)

from_step : {X : Type 0} (t : X → Bool) (a x : X) (xs : List X) (b : Bool) → t a ≡ b →
    (Contains (filter t xs) x → Contains xs x × (t x ≡ true)) → Contains (cond b (a ∷ filter t xs) (filter t xs)) x →
    Contains (a ∷ xs) x × (t x ≡ true)
from_step t a x xs true is more (zero, lt, e) = ((0, omega arith, e), ap t (sym e) ∙ is)
from_step t a x xs true is more (suc k, lt, e) = let h = more (k, omega arith, e) in (behind a x xs h.0, h.1)
from_step t a x xs false is more h = let m = more h in (behind a x xs m.0, m.1)

pub from_filter : {X : Type 0} (t : X → Bool) (xs : List X) (x : X) → Contains (filter t xs) x → Contains xs x × (t x ≡ true)
from_filter t [] x (k, lt, e) = absurd (omega arith)
from_filter t (a ∷ xs) x h = from_step t a x xs (t a) refl (from_filter t xs x) h

pub filter_all : {X : Type 0} (xs : List X) → filter (λ x. true) xs ≡ xs
filter_all [] = refl
filter_all (x ∷ xs) = ap (λ ys. x ∷ ys) (filter_all xs)

pub filter_none : {X : Type 0} (xs : List X) → filter (λ x. false) xs ≡ []
filter_none [] = refl
filter_none (x ∷ xs) = filter_none xs
