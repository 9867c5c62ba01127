-- What a test of two declarations' bounds tells.
use Rattle.std.proofs.Common.{◌≡◌, Bool, true, false, ◌&&◌, Option, Some, None, ℤ, refl, ap, ◌∙◌}
use Rattle.std.proofs.lemmas.Bool.Decides.{Decides-int_eq}
use Rattle.std.specs.Ordering.{int_eq}
use Rattle.scopes.specs.Handed.{same_bounds}

pub both_true : (a b : Bool) → a && b ≡ true → (a ≡ true) × (b ≡ true)
both_true true b h = (refl, h)
both_true false b h = absurd (cc h)

-- bounds that it takes for the same are
pub one_bounds : (a b : Option (ℤ × ℤ)) → same_bounds a b ≡ true → a ≡ b
one_bounds None None h = refl
one_bounds None (Some b) h = absurd (cc h)
one_bounds (Some a) None h = absurd (cc h)
one_bounds (Some (low, high)) (Some (from, to)) h =
    let parts = both_true (int_eq low from) (int_eq high to) h in
    let lows = (Decides-int_eq low from).0 parts.0 in
    let highs = (Decides-int_eq high to).0 parts.1 in
    λ i. Some (lows i, highs i)

pub bounds_itself : (a : Option (ℤ × ℤ)) → same_bounds a a ≡ true
bounds_itself None = refl
bounds_itself (Some (low, high)) =
    ap (λ (b : Bool). b && int_eq high high) ((Decides-int_eq low low).1 refl) ∙ (Decides-int_eq high high).1 refl
