-- Ends of intervals as the code passes them on.
use Rattle.std.proofs.Common.{◌≡◌, ℤ, ◌≤ℤ◌, arith, FitsSigned, to_z, of_z, ◌∙◌, subst, true}
use Rattle.std.specs.Prelude.{int_le}
use Rattle.std.specs.Int.{w64, w128, int_min, int_max}
use Rattle.std.proofs.lemmas.Int.{ints, to_z-of_z}

pub least_passed : (x y m : ℤ) → FitsSigned w64 x → FitsSigned w64 y → FitsSigned w64 m
    → m ≡ int_min (to_z w64 (of_z w64 x)) (to_z w64 (of_z w64 y)) → to_z w64 (of_z w64 m) ≡ int_min x y
least_passed x y m f g h e = let k = simp to_z-of_z at e in to_z-of_z w64 m h ∙ k

pub greatest_passed : (x y m : ℤ) → FitsSigned w64 x → FitsSigned w64 y → FitsSigned w64 m
    → m ≡ int_max (to_z w64 (of_z w64 x)) (to_z w64 (of_z w64 y)) → to_z w64 (of_z w64 m) ≡ int_max x y
greatest_passed x y m f g h e = let k = simp to_z-of_z at e in to_z-of_z w64 m h ∙ k

-- what two numbers of 128 bits come to
pub least_of_passed : (x y p q m : ℤ) → FitsSigned w128 x → FitsSigned w128 y
    → m ≡ int_min (to_z w128 (of_z w128 x)) (to_z w128 (of_z w128 y)) → x ≡ p → y ≡ q → m ≡ int_min p q
least_of_passed x y p q m f g e h k = let l = simp to_z-of_z at e in rw (← h, ← k) l

pub greatest_of_passed : (x y p q m : ℤ) → FitsSigned w128 x → FitsSigned w128 y
    → m ≡ int_max (to_z w128 (of_z w128 x)) (to_z w128 (of_z w128 y)) → x ≡ p → y ≡ q → m ≡ int_max p q
greatest_of_passed x y p q m f g e h k = let l = simp to_z-of_z at e in rw (← h, ← k) l

-- a function of two numbers of 64 bits
pub given_passed : (f : ℤ → ℤ → ℤ) (x y z m : ℤ) → FitsSigned w64 x → FitsSigned w64 y
    → m ≡ f (to_z w64 (of_z w64 x)) (to_z w64 (of_z w64 y)) → y ≡ z → m ≡ f x z
given_passed f x y z m g h e k = let l = simp to_z-of_z at e in rw (← k) l

-- a function of one number of 64 bits
pub one_passed : (f : ℤ → ℤ) (x y m : ℤ) → FitsSigned w64 x → m ≡ f (to_z w64 (of_z w64 x)) → x ≡ y → m ≡ f y
one_passed f x y m g e k = let l = simp to_z-of_z at e in rw (← k) l

-- a function of two numbers of 64 bits, both known by others
pub both_passed : (f : ℤ → ℤ → ℤ) (x y u v m : ℤ) → FitsSigned w64 x → FitsSigned w64 y
    → m ≡ f (to_z w64 (of_z w64 x)) (to_z w64 (of_z w64 y)) → x ≡ u → y ≡ v → m ≡ f u v
both_passed f x y u v m g h e j k = let l = simp to_z-of_z at e in rw (← j, ← k) l

-- a fact of a number of 64 bits
pub fact_passed : (P : ℤ → Type 0) (x y : ℤ) → FitsSigned w64 x → P (to_z w64 (of_z w64 x)) → x ≡ y → P y
fact_passed P x y f h e = subst P (to_z-of_z w64 x f ∙ e) h

-- what a comparison of numbers of 64 bits says
pub le_is : (x y : ℤ) → int_le x y ≡ true → x ≤ℤ y
le_is x y h = grind (arith, ints)

pub le_passed : (x y : ℤ) → FitsSigned w64 x → FitsSigned w64 y → int_le (to_z w64 (of_z w64 x)) (to_z w64 (of_z w64 y)) ≡ true → x ≤ℤ y
le_passed x y f g h = let k : int_le x y ≡ true = simp to_z-of_z at h in le_is x y k
