-- Items of lists, and of what is made of lists.
use Rattle.std.proofs.Common.{◌≡◌, ◌⊎◌, inl, inr, ℕ, zero, suc, ◌<◌, Bool, true, false, List, [], ◌∷◌, arith, get_or, length, map}
use Rattle.std.proofs.Common.{refl, subst, sym}
use Rattle.std.proofs.lemmas.List.Elements.{All-contains, Contains-append_cases, Contains-append_left, Contains-append_right, filter_passes}
use Rattle.std.specs.List.{Contains, filter, flat_map}
use Rattle.std.specs.Prelude.{cond}

pub first : {X : Type 0} (x : X) (xs : List X) → Contains (x ∷ xs) x
first x xs = (0, omega arith, refl)

pub later : {X : Type 0} (y : X) (xs : List X) (x : X) → Contains xs x → Contains (y ∷ xs) x
later y xs x one = Contains-append_right (y ∷ []) xs x one

-- ---- what is kept

kept_first : {X : Type 0} (p : X → Bool) (y : X) (ys : List X) (x : X) → y ≡ x → p x ≡ true → Contains (filter p (y ∷ ys)) x
kept_first p y ys x is passes =
    subst (λ z. Contains (filter p (z ∷ ys)) x) (sym is)
    (subst (λ b. Contains (cond b (x ∷ filter p ys) (filter p ys)) x) (sym passes) (first x (filter p ys)))

kept_later : {X : Type 0} (b : Bool) (y : X) (ys : List X) (x : X) → Contains ys x → Contains (cond b (y ∷ ys) ys) x
kept_later true y ys x one = later y ys x one
kept_later false y ys x one = one

kept_at_place : {X : Type 0} (p : X → Bool) (xs : List X) (k : ℕ) (x : X) → k < length xs → get_or xs k x ≡ x → p x ≡ true →
    Contains (filter p xs) x
kept_at_place p [] k x within is passes = absurd (omega (arith, within))
kept_at_place p (y ∷ ys) zero x within is passes = kept_first p y ys x is passes
kept_at_place p (y ∷ ys) (suc k) x within is passes =
    kept_later (p y) y (filter p ys) x (kept_at_place p ys k x (omega (arith, within)) is passes)

pub kept : {X : Type 0} (p : X → Bool) (xs : List X) (x : X) → Contains xs x → p x ≡ true → Contains (filter p xs) x
kept p xs x one passes = kept_at_place p xs one.0 x one.1 one.2 passes

pub passes_test : {X : Type 0} (p : X → Bool) (xs : List X) (x : X) → Contains (filter p xs) x → p x ≡ true
passes_test p xs x one = All-contains (λ y. p y ≡ true) (filter p xs) x (filter_passes p xs) one

of_kept_at : {X : Type 0} (p : X → Bool) (xs : List X) (x : X) (b : Bool) (y : X) → (Contains (filter p xs) x → Contains xs x) →
    Contains (cond b (y ∷ filter p xs) (filter p xs)) x → Contains (y ∷ xs) x
of_kept_at p xs x false y others one = later y xs x (others one)
of_kept_at p xs x true y others one = by (Contains-append_cases (y ∷ []) (filter p xs) x one)
  where
    by : Contains (y ∷ []) x ⊎ Contains (filter p xs) x → Contains (y ∷ xs) x
    by (inl here) = Contains-append_left (y ∷ []) xs x here
    by (inr there) = later y xs x (others there)

pub of_kept : {X : Type 0} (p : X → Bool) (xs : List X) (x : X) → Contains (filter p xs) x → Contains xs x
of_kept p [] x one = one
of_kept p (y ∷ ys) x one = of_kept_at p ys x (p y) y (of_kept p ys x) one

-- ---- what is made of each

mapped_at : {X Y : Type 0} (f : X → Y) (xs : List X) (k : ℕ) (x : X) → k < length xs → get_or xs k x ≡ x → Contains (map f xs) (f x)
mapped_at f [] k x within is = absurd (omega (arith, within))
mapped_at f (y ∷ ys) zero x within is = subst (λ z. Contains (f z ∷ map f ys) (f x)) (sym is) (first (f x) (map f ys))
mapped_at f (y ∷ ys) (suc k) x within is = later (f y) (map f ys) (f x) (mapped_at f ys k x (omega (arith, within)) is)

pub mapped : {X Y : Type 0} (f : X → Y) (xs : List X) (x : X) → Contains xs x → Contains (map f xs) (f x)
mapped f xs x one = mapped_at f xs one.0 x one.1 one.2

spread_at : {X Y : Type 0} (f : X → List Y) (xs : List X) (k : ℕ) (x : X) (y : Y) → k < length xs → get_or xs k x ≡ x → Contains (f x) y →
    Contains (flat_map f xs) y
spread_at f [] k x y within is one = absurd (omega (arith, within))
spread_at f (z ∷ zs) zero x y within is one =
    Contains-append_left (f z) (flat_map f zs) y (subst (λ w. Contains (f w) y) (sym is) one)
spread_at f (z ∷ zs) (suc k) x y within is one =
    Contains-append_right (f z) (flat_map f zs) y (spread_at f zs k x y (omega (arith, within)) is one)

pub spread : {X Y : Type 0} (f : X → List Y) (xs : List X) (x : X) (y : Y) → Contains xs x → Contains (f x) y → Contains (flat_map f xs) y
spread f xs x y at one = spread_at f xs at.0 x y at.1 at.2 one

-- ---- where an item comes from

pub record MadeOf {X Y : Type 0} (xs : List X) (P : X → Y → Type 0) (y : Y) : Type 0 where
  pub from : X
  pub item : Contains xs from
  pub holds : P from y

made_later : {X Y : Type 0} (P : X → Y → Type 0) (x : X) (xs : List X) (y : Y) → MadeOf xs P y → MadeOf (x ∷ xs) P y
made_later P x xs y m = record { from = m.from; item = later x xs m.from m.item; holds = m.holds }

pub of_spread : {X Y : Type 0} (f : X → List Y) (xs : List X) (y : Y) → Contains (flat_map f xs) y → MadeOf xs (λ x y. Contains (f x) y) y
of_spread f [] y one = absurd (omega (arith, one.1))
of_spread f (x ∷ xs) y one = by (Contains-append_cases (f x) (flat_map f xs) y one) (λ there. of_spread f xs y there) where
  by : Contains (f x) y ⊎ Contains (flat_map f xs) y →
      (Contains (flat_map f xs) y → MadeOf xs (λ x y. Contains (f x) y) y) → MadeOf (x ∷ xs) (λ x y. Contains (f x) y) y
  by (inl here) others = record { from = x; item = first x xs; holds = here }
  by (inr there) others = made_later (λ x y. Contains (f x) y) x xs y (others there)

of_mapped_at : {X Y : Type 0} (f : X → Y) (xs : List X) (k : ℕ) (y : Y) → k < length (map f xs) → get_or (map f xs) k y ≡ y →
    MadeOf xs (λ x y. f x ≡ y) y
of_mapped_at f [] k y within is = absurd (omega (arith, within))
of_mapped_at f (x ∷ xs) zero y within is = record { from = x; item = first x xs; holds = is }
of_mapped_at f (x ∷ xs) (suc k) y within is = made_later (λ x y. f x ≡ y) x xs y (of_mapped_at f xs k y (omega (arith, within)) is)

pub of_mapped : {X Y : Type 0} (f : X → Y) (xs : List X) (y : Y) → Contains (map f xs) y → MadeOf xs (λ x y. f x ≡ y) y
of_mapped f xs y one = of_mapped_at f xs one.0 y one.1 one.2
