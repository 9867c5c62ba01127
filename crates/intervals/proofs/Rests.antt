-- Where remainders lie.
use Rattle.std.proofs.Common.{◌≡◌, ◌≢◌, ℤ, ℕ, pos, negsuc, Bool, true, false, ◌↔◌, inl, inr, ◌≤ℤ◌, ◌<ℤ◌, ◌+ℤ◌, ◌-ℤ◌, ◌*ℤ◌, Some, Ok, Err, IsTrue, arith, refl, sym, ap, ◌∙◌, if◌then◌else◌}
use Rattle.std.specs.Prelude.{IsSomeAnd}
use Rattle.std.specs.Int.{int_min, int_max}
use Rattle.std.proofs.lemmas.Int.{ints, clamps, by_lt_z}
use Rattle.pram_values.specs.declared.kind.Kind.TheVariants.{Overflow, DivideByZero}
use Rattle.pram_values.specs.Value.{Value}
use Rattle.pram_values.specs.Truth.{is_nonzero}
use Rattle.pram_values.specs.Division.{remainder_of, floor_quotient, floor_remainder, IsRemainderFor}
use Rattle.pram_values.proofs.Divisions.{remainder_is_within}
use Rattle.intervals.specs.declared.interval.Interval.{Interval}
use Rattle.intervals.specs.declared.found.Found.{Found}
use Rattle.intervals.specs.Intervals.{IsIn, IsWithin}
use Rattle.intervals.specs.Remainders.{HasOneQuotient, IsHighest, IsRemainderRange, IsZeroAlone, AreRemainders}
use Rattle.intervals.specs.Results.{Gives, Tells}
use Rattle.intervals.proofs.Corners.{IsBetween}
use Rattle.intervals.proofs.Floors.{floor_row, nonzero_is, nonzero_if}
use Rattle.intervals.proofs.Sides.{zero_from}
use Rattle.intervals.proofs.Joins.{least_in, greatest_in}

-- ---- what a remainder says

given_by : (x y z : ℤ) (b : Bool) → is_nonzero y ≡ b → ◌≡◌ {A = Value} (if b then Ok (floor_remainder x y) else Err DivideByZero) (Ok z)
    → (y ≢ pos 0) × (floor_remainder x y ≡ z)
given_by x y z true h e = (nonzero_is y h, cc)
given_by x y z false h e = absurd (cc)

pub rest_given : (x y z : ℤ) → ◌≡◌ {A = Value} (remainder_of x y) (Ok z) → (y ≢ pos 0) × (floor_remainder x y ≡ z)
rest_given x y z e = given_by x y z (is_nonzero y) refl e

pub gives_rest : (x y : ℤ) → y ≢ pos 0 → ◌≡◌ {A = Value} (remainder_of x y) (Ok (floor_remainder x y))
gives_rest x y n = rw (nonzero_if y n)

no_overflow : (x y : ℤ) (b : Bool) → is_nonzero y ≡ b → ◌≡◌ {A = Value} (if b then Ok (floor_remainder x y) else Err DivideByZero) (Err Overflow) → ⊥
no_overflow x y true h e = absurd (cc)
no_overflow x y false h e = absurd (cc)

zero_by : (x y : ℤ) (b : Bool) → is_nonzero y ≡ b → ◌≡◌ {A = Value} (if b then Ok (floor_remainder x y) else Err DivideByZero) (Err DivideByZero) → is_nonzero y ≡ false
zero_by x y true h e = absurd (cc)
zero_by x y false h e = h

-- ---- bounds

record InBounds (a b : Interval) (z : ℤ) : Type 0 where
  pub least : int_min (pos 0) (b.least +ℤ pos 1) ≤ℤ z
  pub greatest : z ≤ℤ int_max (pos 0) (b.greatest -ℤ pos 1)
  pub at_most : pos 0 ≤ℤ a.least → pos 0 <ℤ b.least → z ≤ℤ a.greatest

above_one : (a b : Interval) (d : ℕ) (z : ℤ) → IsIn (pos d) b → pos 0 ≤ℤ z → z <ℤ pos d → (int_min (pos 0) (b.least +ℤ pos 1) ≤ℤ z) × (z ≤ℤ int_max (pos 0) (b.greatest -ℤ pos 1))
above_one a b d z h k l = (omega (arith, ints, clamps), omega (arith, ints, clamps))

below_one : (a b : Interval) (d : ℕ) (z : ℤ) → IsIn (negsuc d) b → negsuc d <ℤ z → z ≤ℤ pos 0 → (int_min (pos 0) (b.least +ℤ pos 1) ≤ℤ z) × (z ≤ℤ int_max (pos 0) (b.greatest -ℤ pos 1))
below_one a b d z h k l = (omega (arith, ints, clamps), omega (arith, ints, clamps))

between_divisors : (a b : Interval) (y z : ℤ) → IsIn y b → IsRemainderFor y z → (int_min (pos 0) (b.least +ℤ pos 1) ≤ℤ z) × (z ≤ℤ int_max (pos 0) (b.greatest -ℤ pos 1))
between_divisors a b (pos d) z h r = above_one a b d z h r.0 r.1
between_divisors a b (negsuc d) z h r = below_one a b d z h r.0 r.1

at_most_number : (x y : ℤ) → pos 0 ≤ℤ x → pos 0 <ℤ y → floor_remainder x y ≤ℤ x
at_most_number (pos x) (pos d) h k = omega (arith, ints)
at_most_number (negsuc x) y h k = absurd (omega (arith, ints))
at_most_number (pos x) (negsuc d) h k = absurd (omega (arith, ints))

rest_in : (a b : Interval) (x y : ℤ) → IsIn x a → IsIn y b → y ≢ pos 0 → InBounds a b (floor_remainder x y)
rest_in a b x y h k n =
    let w = between_divisors a b y (floor_remainder x y) k (remainder_is_within x y n) in
    record {
      least = w.0;
      greatest = w.1;
      at_most = λ s t. let m : floor_remainder x y ≤ℤ x = at_most_number x y (omega (arith, ints)) (omega (arith, ints)) in omega (arith, ints);
    }

both_below : (z x y : ℤ) → z ≤ℤ x → z ≤ℤ y → z ≤ℤ int_min x y
both_below z x y h k = omega (arith, ints, clamps)

below_highest : (a b : Interval) (z h : ℤ) → InBounds a b z → IsHighest a b h → z ≤ℤ h
below_highest a b z h r k =
    by_lt_z a.least (pos 0)
    (λ l. rw (k.free (inl l)) r.greatest)
    (λ l. by_lt_z (pos 0) b.least
    (λ m.
    let e : h ≡ int_min (int_max (pos 0) (b.greatest -ℤ pos 1)) a.greatest = k.capped l m in
    let n : z ≤ℤ a.greatest = r.at_most l m in
    let q : z ≤ℤ int_max (pos 0) (b.greatest -ℤ pos 1) = r.greatest in
    rw e (both_below z (int_max (pos 0) (b.greatest -ℤ pos 1)) a.greatest q n))
    (λ m. rw (k.free (inr m)) r.greatest))

pub bounds_sound : (a b i : Interval) → IsRemainderRange a b i
    → (x y z : ℤ) → IsIn x a → IsIn y b → ◌≡◌ {A = Value} (remainder_of x y) (Ok z) → IsIn z i
bounds_sound a b i o x y z h k g =
    let w = rest_given x y z g in
    let r : InBounds a b z = rw w.1 at (rest_in a b x y h k w.0) in
    record { least = rw o.least r.least; greatest = below_highest a b z i.greatest r o.greatest }

-- ---- one quotient

pub same_between : (p q v : ℤ) → p ≡ q → IsBetween p q v → v ≡ p
same_between p q v e h =
    let l : int_min p q ≤ℤ v = h.above in
    let m : v ≤ℤ int_max p q = h.below in
    omega (arith, ints, clamps)

minus_rising : (x y z : ℤ) → x ≤ℤ y → (x -ℤ z) ≤ℤ (y -ℤ z)
minus_rising x y z h = omega (arith, ints)

rest_rising : (x y d p q : ℤ) → p ≡ q → x ≤ℤ y → (x -ℤ d *ℤ p) ≤ℤ (y -ℤ d *ℤ q)
rest_rising x y d p q e h = rw (← e) (minus_rising x y (d *ℤ p) h)

pub rests_ordered : (a b : Interval) → HasOneQuotient a b → floor_remainder a.least b.least ≤ℤ floor_remainder a.greatest b.least
rests_ordered a b h = rest_rising a.least a.greatest b.least (floor_quotient a.least b.least) (floor_quotient a.greatest b.least) h.same a.ordered

pub one_member : (b : Interval) (y : ℤ) → b.least ≡ b.greatest → IsIn y b → y ≡ b.least
one_member b y e h = omega (arith, ints)

pub one_sound : (a b i : Interval) → HasOneQuotient a b → i.least ≡ floor_remainder a.least b.least → i.greatest ≡ floor_remainder a.greatest b.least
    → (x y z : ℤ) → IsIn x a → IsIn y b → ◌≡◌ {A = Value} (remainder_of x y) (Ok z) → IsIn z i
one_sound a b i q e f x y z h k g =
    let w = rest_given x y z g in
    let d : y ≡ b.least = one_member b y q.point k in
    let r : floor_remainder x b.least ≡ z = rw d at w.1 in
    let s : floor_quotient x b.least ≡ floor_quotient a.least b.least =
    same_between (floor_quotient a.least b.least) (floor_quotient a.greatest b.least) (floor_quotient x b.least) q.same
    (floor_row x a.least a.greatest b.least q.nonzero h.least h.greatest) in
    let low : floor_remainder a.least b.least ≤ℤ floor_remainder x b.least = rest_rising a.least x b.least _ _ (sym s) h.least in
    let high : floor_remainder x b.least ≤ℤ floor_remainder a.greatest b.least = rest_rising x a.greatest b.least _ _ (s ∙ q.same) h.greatest in
    record { least = rw (e, ← r) low; greatest = rw (f, ← r) high }

pub one_ends : (a b i : Interval) → HasOneQuotient a b → i.least ≡ floor_remainder a.least b.least → i.greatest ≡ floor_remainder a.greatest b.least
    → Gives remainder_of a b (Ok i.least) × Gives remainder_of a b (Ok i.greatest)
one_ends a b i q e f = (
  record { left = a.least; right = b.least; left_in = least_in a; right_in = least_in b; gives = gives_rest a.least b.least q.nonzero ∙ ap Ok (sym e) },
  record { left = a.greatest; right = b.least; left_in = greatest_in a; right_in = least_in b; gives = gives_rest a.greatest b.least q.nonzero ∙ ap Ok (sym f) },
)

-- ---- all of it

pub rest_told : (a b : Interval) (r : Found) → ((x y z : ℤ) → IsIn x a → IsIn y b → ◌≡◌ {A = Value} (remainder_of x y) (Ok z) → IsSomeAnd r.value (λ i. IsIn z i))
    → r.may_overflow ≡ false → IsTrue r.may_divide_by_zero ↔ IsIn (pos 0) b → Tells remainder_of a b r
rest_told a b r s o z = record {
  sound = s;
  overflow = (λ t. absurd (cc), λ g. absurd (no_overflow g.left g.right (is_nonzero g.right) refl g.gives));
  zero = (
    λ t. record { left = a.least; right = pos 0; left_in = least_in a; right_in = z.0 t; gives = refl },
    λ g. z.1 (rw (zero_from g.right (zero_by g.left g.right (is_nonzero g.right) refl g.gives)) at g.right_in),
  );
}

-- ---- the zero divisor alone

pub one_not_zero : (a b : Interval) → HasOneQuotient a b → IsZeroAlone b → ⊥
one_not_zero a b q z = q.nonzero (z b.least (least_in b))

pub alone_is : (b p : Interval) (h : Bool) → ((x : ℤ) → IsIn x p ↔ (x ≡ pos 0)) → IsTrue h ↔ IsWithin b p → IsTrue h ↔ IsZeroAlone b
alone_is b p h m w = (λ t y k. (m y).0 (w.0 t y k), λ z. w.1 (λ y k. (m y).1 (z y k)))

pub range_found : (a b i : Interval) (h : Bool) → IsRemainderRange a b i → IsTrue h ↔ IsZeroAlone b → h ≡ false → AreRemainders a b (Some i)
range_found a b i h m z e = record {
  range = λ n. m;
  none = (λ f. absurd (cc), λ k. let t : h ≡ true = z.1 k in absurd (cc));
}
