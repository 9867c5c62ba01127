-- Lists of numbers within others, and numbers that ascend.
use Rattle.std.proofs.Common.{◌≡◌, ℕ, zero, suc, ◌+◌, ◌<◌, ◌≤◌, List, [], ◌∷◌, ◌++◌, slice_index, arith, subst}
use Rattle.std.specs.List.{All}
use Rattle.std.specs.List.Sorted.{IsStrictlyIncreasing}

-- the first list is the second one without some of its elements
pub data Sub : List ℕ → List ℕ → Type 0 where
  none : (ys : List ℕ) → Sub [] ys
  skip : (xs ys : List ℕ) (y : ℕ) → Sub xs ys → Sub xs (y ∷ ys)
  keep : (xs ys : List ℕ) (y : ℕ) → Sub xs ys → Sub (y ∷ xs) (y ∷ ys)

pub sub_behind : (xs ys zs : List ℕ) → Sub xs zs → Sub xs (ys ++ zs)
sub_behind xs [] zs h = h
sub_behind xs (y ∷ ys) zs h = skip xs (ys ++ zs) y (sub_behind xs ys zs h)

pub sub_append : (xs ys zs ws : List ℕ) → Sub xs ys → Sub zs ws → Sub (xs ++ zs) (ys ++ ws)
sub_append _ _ zs ws (none ys) h = sub_behind zs ys ws h
sub_append _ _ zs ws (skip xs ys y g) h = skip (xs ++ zs) (ys ++ ws) y (sub_append xs ys zs ws g h)
sub_append _ _ zs ws (keep xs ys y g) h = keep (xs ++ zs) (ys ++ ws) y (sub_append xs ys zs ws g h)

pub sub_front : (xs ys zs : List ℕ) → Sub xs ys → Sub xs (ys ++ zs)
sub_front _ _ zs (none ys) = none (ys ++ zs)
sub_front _ _ zs (skip xs ys y g) = skip xs (ys ++ zs) y (sub_front xs ys zs g)
sub_front _ _ zs (keep xs ys y g) = keep xs (ys ++ zs) y (sub_front xs ys zs g)

pub sub_through : (xs ys zs : List ℕ) → Sub xs ys → Sub ys zs → Sub xs zs
sub_through xs _ _ g (none zs) = sub_none xs zs g
  where
    sub_none : (xs zs : List ℕ) → Sub xs [] → Sub xs zs
    sub_none _ zs (none _) = none zs
sub_through xs _ _ g (skip ys zs y h) = skip xs zs y (sub_through xs ys zs g h)
sub_through xs _ _ g (keep ys zs y h) = kept xs ys zs y g h (λ w i. sub_through w ys zs i h)
  where
    kept : (xs ys zs : List ℕ) (y : ℕ) → Sub xs (y ∷ ys) → Sub ys zs → ((w : List ℕ) → Sub w ys → Sub w zs) → Sub xs (y ∷ zs)
    kept _ ys zs y (none _) h more = none (y ∷ zs)
    kept _ _ zs _ (skip xs ys y g) h more = skip xs zs y (more xs g)
    kept _ _ zs _ (keep xs ys y g) h more = keep xs zs y (more xs g)

-- ascending numbers, from low on and below high
abbrev pub Between : ℕ → List ℕ → ℕ → Type 0
Between low [] high = low ≤ high
Between low (x ∷ xs) high = (low ≤ x) × Between (x + 1) xs high

pub lower : (low from high : ℕ) (xs : List ℕ) → low ≤ from → Between from xs high → Between low xs high
lower low from high [] h g = omega (arith, h, g)
lower low from high (x ∷ xs) h g = (omega (arith, h, g.0), g.1)

pub most : (low high : ℕ) (ys : List ℕ) → Between low ys high → low ≤ high
most low high [] h = h
most low high (y ∷ ys) h = let m = most (y + 1) high ys h.1 in omega (arith, m, h.0)

-- what is between, cut in two
pub split : (low high : ℕ) (xs ys : List ℕ) → Between low (xs ++ ys) high → (mid : ℕ) × Between low xs mid × Between mid ys high
split low high [] ys h = (low, omega arith, h)
split low high (x ∷ xs) ys h = let s = split (x + 1) high xs ys h.1 in (s.0, (h.0, s.1), s.2)

pub joined : (low mid high : ℕ) (xs ys : List ℕ) → Between low xs mid → Between mid ys high → Between low (xs ++ ys) high
joined low mid high [] ys h g = lower low mid high ys h g
joined low mid high (x ∷ xs) ys h g = (h.0, joined (x + 1) mid high xs ys h.1 g)

pub higher : (low to high : ℕ) (xs : List ℕ) → to ≤ high → Between low xs to → Between low xs high
higher low to high [] h g = omega (arith, h, g)
higher low to high (x ∷ xs) h g = (g.0, higher (x + 1) to high xs h g.1)

pub between_sub : (low high : ℕ) (xs ys : List ℕ) → Sub xs ys → Between low ys high → Between low xs high
between_sub low high _ _ (none ys) h = most low high ys h
between_sub low high _ _ (skip xs ys y g) h = lower low (y + 1) high xs (omega (arith, h.0)) (between_sub (y + 1) high xs ys g h.1)
between_sub low high _ _ (keep xs ys y g) h = (h.0, between_sub (y + 1) high xs ys g h.1)

pub increasing : (low high : ℕ) (xs : List ℕ) → Between low xs high → IsStrictlyIncreasing xs
increasing low high [] h k below = absurd (omega (arith, below))
increasing low high (x ∷ []) h k below = absurd (omega (arith, below))
increasing low high (x ∷ y ∷ xs) h zero below = omega (arith, h.1.0)
increasing low high (x ∷ y ∷ xs) h (suc k) below =
    let next : suc k + 1 ≡ suc (k + 1) = omega arith in
    rw next (increasing (x + 1) high (y ∷ xs) h.1 k (omega (arith, below)))

from_first : (low high x : ℕ) (xs : List ℕ) → low ≤ x → IsStrictlyIncreasing (x ∷ xs) → All (λ y. y < high) (x ∷ xs) →
    Between low (x ∷ xs) high
from_first low high x [] least ascend inside = (least, let top : x < high = inside 0 0 (omega arith) in omega (arith, top))
from_first low high x (y ∷ xs) least ascend inside =
    let next : x < y = ascend 0 (omega arith) in (
      least,
      from_first (x + 1) high y xs (omega (arith, next))
          (λ k below. let later = ascend (suc k) (omega (arith, below)) in let is : suc k + 1 ≡ suc (k + 1) = omega arith in
          subst (λ j. slice_index (y ∷ xs) k < slice_index (x ∷ y ∷ xs) j) is later)
          (λ k d below. inside (suc k) d (omega (arith, below))),
    )

pub between : (high : ℕ) (xs : List ℕ) → IsStrictlyIncreasing xs → All (λ y. y < high) xs → Between 0 xs high
between high [] ascend inside = omega arith
between high (x ∷ xs) ascend inside = from_first 0 high x xs (omega arith) ascend inside
