-- Sums over lists in a commutative monoid, by which everything is collected that several processors, cells or workers give.
use Rattle.std.specs.Prelude.{◌≡◌, ℕ, List, [], ◌∷◌}
use Rattle.std.specs.List.{filter}
use Rattle.std.proofs.Common.{eqb}

-- a commutative monoid: an operation with a unit, in which neither brackets nor order matter
pub record IsMonoid (M : Type 0) (unit : M) (op : M → M → M) : Type 0 where
  pub neutral : (x : M) → op unit x ≡ x
  pub associative : (x y z : M) → op (op x y) z ≡ op x (op y z)
  pub commutative : (x y : M) → op x y ≡ op y x

-- the sum of f over a list
abbrev pub total : {A M : Type 0} → M → (M → M → M) → (A → M) → List A → M
total unit op f [] = unit
total unit op f (x ∷ xs) = op (f x) (total unit op f xs)

-- the items that are in class k
abbrev pub in_class : {A : Type 0} → (A → ℕ) → ℕ → List A → List A
in_class class k = filter (λ x. eqb (class x) k)
