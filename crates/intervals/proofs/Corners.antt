-- A function that goes from end to end along each row and each column comes to its least and greatest at corners.
use Rattle.std.proofs.Common.{◌≡◌, ℤ, ℕ, pos, negsuc, Bool, true, ◌≤ℤ◌, ◌*ℤ◌, ◌*◌, ◌≤◌, zero, suc, neg_ℤ, arith, refl, ◌⊎◌, inl, inr}
use Rattle.std.specs.Int.{int_min, int_max}
use Rattle.std.proofs.lemmas.Int.{ints, clamps}
use Rattle.std.proofs.Math.Nat.{mul-le-mul_right}
use Rattle.intervals.specs.declared.interval.Interval.{Interval}
use Rattle.intervals.specs.Intervals.{IsIn}
use Rattle.intervals.specs.Corners.{least_corner, greatest_corner}
use Rattle.intervals.specs.Hulls.{Reaches, IsHull}
use Rattle.intervals.proofs.Joins.{least_in, greatest_in}

-- v lies between x and y, in either order
pub record IsBetween (x y v : ℤ) : Type 0 where
  pub above : int_min x y ≤ℤ v
  pub below : v ≤ℤ int_max x y

pub rising : (x y v : ℤ) → x ≤ℤ v → v ≤ℤ y → IsBetween x y v
rising x y v h k = record { above = omega (arith, ints, clamps); below = omega (arith, ints, clamps) }

pub falling : (x y v : ℤ) → v ≤ℤ x → y ≤ℤ v → IsBetween x y v
falling x y v h k = record { above = omega (arith, ints, clamps); below = omega (arith, ints, clamps) }

least_of_four : (p q r s x y v : ℤ) → IsBetween p q x → IsBetween r s y → IsBetween x y v → int_min (int_min p q) (int_min r s) ≤ℤ v
least_of_four p q r s x y v h k l =
    let a : int_min p q ≤ℤ x = h.above in
    let b : int_min r s ≤ℤ y = k.above in
    let d : int_min x y ≤ℤ v = l.above in
    omega (arith, ints, clamps)

greatest_of_four : (p q r s x y v : ℤ) → IsBetween p q x → IsBetween r s y → IsBetween x y v → v ≤ℤ int_max (int_max p q) (int_max r s)
greatest_of_four p q r s x y v h k l =
    let a : x ≤ℤ int_max p q = h.below in
    let b : y ≤ℤ int_max r s = k.below in
    let d : v ≤ℤ int_max x y = l.below in
    omega (arith, ints, clamps)

pub min_one : (x y : ℤ) → (int_min x y ≡ x) ⊎ (int_min x y ≡ y)
min_one x y = grind (arith, ints)

pub max_one : (x y : ℤ) → (int_max x y ≡ x) ⊎ (int_max x y ≡ y)
max_one x y = grind (arith, ints)

module _ (p : ℤ → Bool) (f : ℤ → ℤ → ℤ) (a b : Interval) where
  min_reached : (x y : ℤ) → Reaches p f a b x → Reaches p f a b y → Reaches p f a b (int_min x y)
  min_reached x y h k = elim (min_one x y) [ inl e ↦ rw e h | inr e ↦ rw e k ]

  max_reached : (x y : ℤ) → Reaches p f a b x → Reaches p f a b y → Reaches p f a b (int_max x y)
  max_reached x y h k = elim (max_one x y) [ inl e ↦ rw e h | inr e ↦ rw e k ]

  corner : (x y : ℤ) → IsIn x a → IsIn y b → p y ≡ true → Reaches p f a b (f x y)
  corner x y h k e = record { left = x; right = y; left_in = h; right_in = k; passes = e; is = refl }

  pub corners_hull : p b.least ≡ true → p b.greatest ≡ true
      → ((x y : ℤ) → IsIn x a → IsIn y b → IsBetween (f a.least y) (f a.greatest y) (f x y))
      → ((x y : ℤ) → IsIn x a → IsIn y b → IsBetween (f x b.least) (f x b.greatest) (f x y))
      → IsHull p f a b (least_corner f a b) (greatest_corner f a b)
  corners_hull m n row column = record {
    above = λ x y h k e. least_of_four _ _ _ _ _ _ _ (column a.least y (least_in a) k) (column a.greatest y (greatest_in a) k) (row x y h k);
    below = λ x y h k e. greatest_of_four _ _ _ _ _ _ _ (column a.least y (least_in a) k) (column a.greatest y (greatest_in a) k) (row x y h k);
    least = min_reached _ _
        (min_reached _ _ (corner a.least b.least (least_in a) (least_in b) m) (corner a.least b.greatest (least_in a) (greatest_in b) n))
        (min_reached _ _ (corner a.greatest b.least (greatest_in a) (least_in b) m) (corner a.greatest b.greatest (greatest_in a) (greatest_in b) n));
    greatest = max_reached _ _
        (max_reached _ _ (corner a.least b.least (least_in a) (least_in b) m) (corner a.least b.greatest (least_in a) (greatest_in b) n))
        (max_reached _ _ (corner a.greatest b.least (greatest_in a) (least_in b) m) (corner a.greatest b.greatest (greatest_in a) (greatest_in b) n));
  }

-- ---- products

pub mul_rising : (x y d : ℤ) → x ≤ℤ y → pos 0 ≤ℤ d → (x *ℤ d) ≤ℤ (y *ℤ d)
mul_rising (pos a) (pos b) (pos n) h k = let m : a * n ≤ b * n = mul-le-mul_right n (omega (arith, ints)) in omega (arith, ints)
mul_rising (negsuc a) (pos b) (pos n) h k = omega (arith, ints)
mul_rising (negsuc a) (negsuc b) (pos n) h k = let m : suc b * n ≤ suc a * n = mul-le-mul_right n (omega (arith, ints)) in omega (arith, ints)
mul_rising (pos a) (negsuc b) (pos n) h k = absurd (omega (arith, ints))
mul_rising x y (negsuc n) h k = absurd (omega (arith, ints))

mul_negative : (x : ℤ) (n : ℕ) → x *ℤ negsuc n ≡ neg_ℤ (x *ℤ pos (suc n))
mul_negative (pos x) n = omega (arith, ints)
mul_negative (negsuc x) n = omega (arith, ints)

negatives_turn : (x y : ℤ) → x ≤ℤ y → neg_ℤ y ≤ℤ neg_ℤ x
negatives_turn x y h = omega (arith, ints)

pub mul_falling : (x y d : ℤ) → x ≤ℤ y → d ≤ℤ pos 0 → (y *ℤ d) ≤ℤ (x *ℤ d)
mul_falling x y (pos zero) h k = omega (arith, ints)
mul_falling x y (pos (suc n)) h k = absurd (omega (arith, ints))
mul_falling x y (negsuc n) h k = rw (mul_negative x n, mul_negative y n) (negatives_turn _ _ (mul_rising x y (pos (suc n)) h (omega (arith, ints))))

commuted : (x y : ℤ) → x *ℤ y ≡ y *ℤ x
commuted x y = omega (arith, ints)

product_row : (a l g d : ℤ) → l ≤ℤ a → a ≤ℤ g → IsBetween (l *ℤ d) (g *ℤ d) (a *ℤ d)
product_row a l g (pos n) h k = rising (l *ℤ pos n) (g *ℤ pos n) (a *ℤ pos n) (mul_rising l a (pos n) h (omega (arith, ints))) (mul_rising a g (pos n) k (omega (arith, ints)))
product_row a l g (negsuc n) h k = falling (l *ℤ negsuc n) (g *ℤ negsuc n) (a *ℤ negsuc n) (mul_falling l a (negsuc n) h (omega (arith, ints))) (mul_falling a g (negsuc n) k (omega (arith, ints)))

product_column : (a l g d : ℤ) → l ≤ℤ a → a ≤ℤ g → IsBetween (d *ℤ l) (d *ℤ g) (d *ℤ a)
product_column a l g d h k = rw (commuted d l, commuted d g, commuted d a) (product_row a l g d h k)

pub products_hull : (a b : Interval) → IsHull (λ y. true) ◌*ℤ◌ a b (least_corner ◌*ℤ◌ a b) (greatest_corner ◌*ℤ◌ a b)
products_hull a b = corners_hull (λ y. true) ◌*ℤ◌ a b refl refl
    (λ x y h k. product_row x a.least a.greatest y h.least h.greatest)
    (λ x y h k. product_column y b.least b.greatest x k.least k.greatest)
