-- The ends of joins and meets.
use Rattle.std.proofs.Common.{◌≡◌, ◌≤ℤ◌, arith, Option, Some, None, ◌↔◌, IsSome, IfSome, Bool, true, false}
use Rattle.std.specs.Int.{int_min, int_max}
use Rattle.std.proofs.lemmas.Int.{ints, clamps}
use Rattle.intervals.specs.declared.interval.Interval.{Interval}
use Rattle.intervals.specs.Intervals.{IsIn, IsJoin, IsMeet}

pub least_in : (i : Interval) → IsIn i.least i
least_in i = record { least = omega (arith, ints); greatest = i.ordered }

pub greatest_in : (i : Interval) → IsIn i.greatest i
greatest_in i = record { least = i.ordered; greatest = omega (arith, ints) }

pub join_is : (a b j : Interval) → j.least ≡ int_min a.least b.least → j.greatest ≡ int_max a.greatest b.greatest → IsJoin a b j
join_is a b j e f = record {
  left = λ x h. record { least = omega (arith, ints, clamps); greatest = omega (arith, ints, clamps) };
  right = λ x h. record { least = omega (arith, ints, clamps); greatest = omega (arith, ints, clamps) };
  least = λ i p q x h.
      let k : IsIn a.least i = p a.least (least_in a) in
      let l : IsIn a.greatest i = p a.greatest (greatest_in a) in
      let m : IsIn b.least i = q b.least (least_in b) in
      let n : IsIn b.greatest i = q b.greatest (greatest_in b) in
      record { least = omega (arith, ints, clamps); greatest = omega (arith, ints, clamps) };
}

pub meet_is : (a b : Interval) (o : Option Interval) → IsSome o ↔ (int_max a.least b.least ≤ℤ int_min a.greatest b.greatest)
    → IfSome o (λ i. (i.least ≡ int_max a.least b.least) × (i.greatest ≡ int_min a.greatest b.greatest)) → IsMeet a b o
meet_is a b None m e = λ x h k. let q : ◌≡◌ {A = Bool} false true = m.1 (omega (arith, ints, clamps)) in absurd (cc)
meet_is a b (Some i) m e = λ x. (
  λ h. (
    record { least = omega (arith, ints, clamps, e.0); greatest = omega (arith, ints, clamps, e.1) },
    record { least = omega (arith, ints, clamps, e.0); greatest = omega (arith, ints, clamps, e.1) },
  ),
  λ h. record { least = omega (arith, ints, clamps, e.0); greatest = omega (arith, ints, clamps, e.1) },
)
