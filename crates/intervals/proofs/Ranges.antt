-- Sums, differences and negatives come to each number of a range.
use Rattle.std.proofs.Common.{ℤ, ◌≤ℤ◌, ◌+ℤ◌, ◌-ℤ◌, neg_ℤ, arith, true, refl}
use Rattle.std.specs.Int.{int_max}
use Rattle.std.proofs.lemmas.Int.{ints, clamps}
use Rattle.intervals.specs.declared.interval.Interval.{Interval}
use Rattle.intervals.specs.Hulls.{Reaches}
use Rattle.intervals.proofs.Hulls.{IsFull}

sum_reaches : (a b : Interval) (z : ℤ) → (a.least +ℤ b.least) ≤ℤ z → z ≤ℤ (a.greatest +ℤ b.greatest) → Reaches (λ y. true) ◌+ℤ◌ a b z
sum_reaches a b z h k =
    let left : ℤ = int_max a.least (z -ℤ b.greatest) in
    let p : a.least ≤ℤ a.greatest = a.ordered in
    let q : b.least ≤ℤ b.greatest = b.ordered in
    record {
      left = left;
      right = z -ℤ left;
      left_in = record { least = omega (arith, ints, clamps); greatest = omega (arith, ints, clamps) };
      right_in = record { least = omega (arith, ints, clamps); greatest = omega (arith, ints, clamps) };
      passes = refl;
      is = omega (arith, ints);
    }

pub sum_full : (a b : Interval) → IsFull (λ y. true) ◌+ℤ◌ a b (a.least +ℤ b.least) (a.greatest +ℤ b.greatest)
sum_full a b =
    let p : a.least ≤ℤ a.greatest = a.ordered in
    let q : b.least ≤ℤ b.greatest = b.ordered in
    record {
      hull = record {
        above = λ x y h k e. omega (arith, ints);
        below = λ x y h k e. omega (arith, ints);
        least = sum_reaches a b (a.least +ℤ b.least) (omega (arith, ints)) (omega (arith, ints));
        greatest = sum_reaches a b (a.greatest +ℤ b.greatest) (omega (arith, ints)) (omega (arith, ints));
      };
      reaches = sum_reaches a b;
    }

difference_reaches : (a b : Interval) (z : ℤ) → (a.least -ℤ b.greatest) ≤ℤ z → z ≤ℤ (a.greatest -ℤ b.least) → Reaches (λ y. true) ◌-ℤ◌ a b z
difference_reaches a b z h k =
    let left : ℤ = int_max a.least (z +ℤ b.least) in
    let p : a.least ≤ℤ a.greatest = a.ordered in
    let q : b.least ≤ℤ b.greatest = b.ordered in
    record {
      left = left;
      right = left -ℤ z;
      left_in = record { least = omega (arith, ints, clamps); greatest = omega (arith, ints, clamps) };
      right_in = record { least = omega (arith, ints, clamps); greatest = omega (arith, ints, clamps) };
      passes = refl;
      is = omega (arith, ints);
    }

pub difference_full : (a b : Interval) → IsFull (λ y. true) ◌-ℤ◌ a b (a.least -ℤ b.greatest) (a.greatest -ℤ b.least)
difference_full a b =
    let p : a.least ≤ℤ a.greatest = a.ordered in
    let q : b.least ≤ℤ b.greatest = b.ordered in
    record {
      hull = record {
        above = λ x y h k e. omega (arith, ints);
        below = λ x y h k e. omega (arith, ints);
        least = difference_reaches a b (a.least -ℤ b.greatest) (omega (arith, ints)) (omega (arith, ints));
        greatest = difference_reaches a b (a.greatest -ℤ b.least) (omega (arith, ints)) (omega (arith, ints));
      };
      reaches = difference_reaches a b;
    }

negative_reaches : (a : Interval) (z : ℤ) → neg_ℤ a.greatest ≤ℤ z → z ≤ℤ neg_ℤ a.least → Reaches (λ y. true) (λ x y. neg_ℤ x) a a z
negative_reaches a z h k =
    let p : a.least ≤ℤ a.greatest = a.ordered in
    record {
      left = neg_ℤ z;
      right = a.least;
      left_in = record { least = omega (arith, ints); greatest = omega (arith, ints) };
      right_in = record { least = omega (arith, ints); greatest = omega (arith, ints) };
      passes = refl;
      is = omega (arith, ints);
    }

pub negative_full : (a : Interval) → IsFull (λ y. true) (λ x y. neg_ℤ x) a a (neg_ℤ a.greatest) (neg_ℤ a.least)
negative_full a =
    let p : a.least ≤ℤ a.greatest = a.ordered in
    record {
      hull = record {
        above = λ x y h k e. omega (arith, ints);
        below = λ x y h k e. omega (arith, ints);
        least = negative_reaches a (neg_ℤ a.greatest) (omega (arith, ints)) (omega (arith, ints));
        greatest = negative_reaches a (neg_ℤ a.least) (omega (arith, ints)) (omega (arith, ints));
      };
      reaches = negative_reaches a;
    }
