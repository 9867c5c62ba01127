-- Filters one behind the other, and whether any passes.
use Rattle.std.proofs.Common.{◌≡◌, ℕ, List, [], ◌∷◌, cond, Bool, true, false, refl, ap}
use Rattle.std.specs.Prelude.{◌&&◌, ◌||◌}
use Rattle.std.specs.List.{filter, list_any}
use Rattle.flat_stretches.specs.Frames.{is_some}

-- two tests that agree
pub filter_same : {A : Type 0} (p q : A → Bool) → ((x : A) → p x ≡ q x) → (xs : List A) → filter p xs ≡ filter q xs
filter_same p q h xs = ap (λ t. filter t xs) (λ i x. h x i)

-- one behind the other
pub filter_twice : {A : Type 0} (p q : A → Bool) (xs : List A) → filter q (filter p xs) ≡ filter (λ x. p x && q x) xs
filter_twice p q [] = refl
filter_twice p q (x ∷ xs) = go (filter_twice p q xs) (p x)
  where
    go : filter q (filter p xs) ≡ filter (λ x. p x && q x) xs → (b : Bool) →
        filter q (cond b (x ∷ filter p xs) (filter p xs))
        ≡ cond (b && q x) (x ∷ filter (λ x. p x && q x) xs) (filter (λ x. p x && q x) xs)
    go rest true = ap (λ r. cond (q x) (x ∷ r) r) rest
    go rest false = rest

-- a test that all pass
pub filter_all : {A : Type 0} (xs : List A) → filter (λ x. true) xs ≡ xs
filter_all [] = refl
filter_all (x ∷ xs) = ap (λ r. x ∷ r) (filter_all xs)

-- whether any passes, by who passes
pub any_is_some : (p : ℕ → Bool) (xs : List ℕ) → list_any p xs ≡ is_some (filter p xs)
any_is_some p [] = refl
any_is_some p (x ∷ xs) = go (any_is_some p xs) (p x)
  where
    go : list_any p xs ≡ is_some (filter p xs) → (b : Bool) → (b || list_any p xs) ≡ is_some (cond b (x ∷ filter p xs) (filter p xs))
    go rest true = refl
    go rest false = rest
