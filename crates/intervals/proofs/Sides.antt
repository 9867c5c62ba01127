-- Divisors below 0 and above it.
use Rattle.std.proofs.Common.{◌≡◌, ℤ, pos, negsuc, zero, suc, Bool, true, false, ◌↔◌, ◌≤ℤ◌, ◌<ℤ◌, ◌⊎◌, inl, inr, Option, MatchOption, IsTrue, Err, arith, refl}
use Rattle.std.specs.Int.{int_min, int_max}
use Rattle.std.proofs.lemmas.Int.{ints, clamps}
use Rattle.pram_values.specs.declared.kind.Kind.TheVariants.{DivideByZero}
use Rattle.pram_values.specs.Truth.{is_nonzero}
use Rattle.pram_values.specs.Division.{quotient, floor_quotient}
use Rattle.intervals.specs.declared.interval.Interval.{Interval}
use Rattle.intervals.specs.declared.found.Found.{Found}
use Rattle.intervals.specs.Intervals.{IsIn}
use Rattle.intervals.specs.Cuts.{IsCut}
use Rattle.intervals.specs.Hulls.{Reaches, IsHull}
use Rattle.intervals.specs.Results.{Gives, Tells}
use Rattle.intervals.proofs.Hulls.{zero_is, sound_told, overflow_told}
use Rattle.intervals.proofs.Corners.{min_one, max_one}
use Rattle.intervals.proofs.Joins.{least_in}

-- the members on one side
abbrev pub IsBelow : Interval → Option Interval → Type 0
IsBelow b o = MatchOption o ((x : ℤ) → IsIn x b → pos 0 ≤ℤ x) (λ i. (x : ℤ) → IsIn x i ↔ (IsIn x b × x <ℤ pos 0))

abbrev pub IsAbove : Interval → Option Interval → Type 0
IsAbove b o = MatchOption o ((x : ℤ) → IsIn x b → x ≤ℤ pos 0) (λ i. (x : ℤ) → IsIn x i ↔ (IsIn x b × pos 0 <ℤ x))

pub no_zero_below : (b i : Interval) → ((x : ℤ) → IsIn x i ↔ (IsIn x b × x <ℤ pos 0)) → IsIn (pos 0) i → ⊥
no_zero_below b i h k = let l : pos 0 <ℤ pos 0 = ((h (pos 0)).0 k).1 in omega (arith, ints)

pub no_zero_above : (b i : Interval) → ((x : ℤ) → IsIn x i ↔ (IsIn x b × pos 0 <ℤ x)) → IsIn (pos 0) i → ⊥
no_zero_above b i h k = let l : pos 0 <ℤ pos 0 = ((h (pos 0)).0 k).1 in omega (arith, ints)

module _ (p : ℤ → Bool) (f : ℤ → ℤ → ℤ) (a b : Interval) where
  reached_wider : (i : Interval) → ((x : ℤ) → IsIn x i → IsIn x b) → (z : ℤ) → Reaches p f a i z → Reaches p f a b z
  reached_wider i w z h = record { left = h.left; right = h.right; left_in = h.left_in; right_in = w h.right h.right_in; passes = h.passes; is = h.is }

  -- all that passes is in a part
  hull_wider : (i : Interval) → ((x : ℤ) → IsIn x i → IsIn x b) → ((x : ℤ) → IsIn x b → p x ≡ true → IsIn x i) → (lo hi : ℤ)
      → IsHull p f a i lo hi → IsHull p f a b lo hi
  hull_wider i w n lo hi h = record {
    above = λ x y k l e. h.above x y k (n y l e) e;
    below = λ x y k l e. h.below x y k (n y l e) e;
    least = reached_wider i w lo h.least;
    greatest = reached_wider i w hi h.greatest;
  }

  min_reached : (x y : ℤ) → Reaches p f a b x → Reaches p f a b y → Reaches p f a b (int_min x y)
  min_reached x y h k = elim (min_one x y) [ inl e ↦ rw e h | inr e ↦ rw e k ]

  max_reached : (x y : ℤ) → Reaches p f a b x → Reaches p f a b y → Reaches p f a b (int_max x y)
  max_reached x y h k = elim (max_one x y) [ inl e ↦ rw e h | inr e ↦ rw e k ]

  -- all that passes is in one of two parts
  hull_of_two : (i j : Interval) → ((x : ℤ) → IsIn x i → IsIn x b) → ((x : ℤ) → IsIn x j → IsIn x b)
      → ((x : ℤ) → IsIn x b → p x ≡ true → IsIn x i ⊎ IsIn x j) → (lo hi lo' hi' : ℤ)
      → IsHull p f a i lo hi → IsHull p f a j lo' hi' → IsHull p f a b (int_min lo lo') (int_max hi hi')
  hull_of_two i j v w n lo hi lo' hi' h k = record {
    above = λ x y q r e. elim (n y r e) [
      | inl s ↦ let t : lo ≤ℤ f x y = h.above x y q s e in omega (arith, ints, clamps)
      | inr s ↦ let t : lo' ≤ℤ f x y = k.above x y q s e in omega (arith, ints, clamps)
    ];
    below = λ x y q r e. elim (n y r e) [
      | inl s ↦ let t : f x y ≤ℤ hi = h.below x y q s e in omega (arith, ints, clamps)
      | inr s ↦ let t : f x y ≤ℤ hi' = k.below x y q s e in omega (arith, ints, clamps)
    ];
    least = min_reached lo lo' (reached_wider i v lo h.least) (reached_wider j w lo' k.least);
    greatest = max_reached hi hi' (reached_wider i v hi h.greatest) (reached_wider j w hi' k.greatest);
  }

-- which side a divisor is on
side : (y : ℤ) → is_nonzero y ≡ true → (y <ℤ pos 0) ⊎ (pos 0 <ℤ y)
side (pos zero) h = absurd (cc)
side (pos (suc y)) h = inr (omega (arith, ints))
side (negsuc y) h = inl (omega (arith, ints))

pub above_alone : (a b i : Interval) (lo hi : ℤ) → ((x : ℤ) → IsIn x b → pos 0 ≤ℤ x) → ((x : ℤ) → IsIn x i ↔ (IsIn x b × pos 0 <ℤ x))
    → IsHull is_nonzero floor_quotient a i lo hi → IsHull is_nonzero floor_quotient a b lo hi
above_alone a b i lo hi n m h = hull_wider is_nonzero floor_quotient a b i (λ x k. ((m x).0 k).0)
    (λ x k e. elim (side x e) [ inl s ↦ absurd (let t : pos 0 ≤ℤ x = n x k in omega (arith, ints)) | inr s ↦ (m x).1 (k, s) ]) lo hi h

pub below_alone : (a b i : Interval) (lo hi : ℤ) → ((x : ℤ) → IsIn x i ↔ (IsIn x b × x <ℤ pos 0)) → ((x : ℤ) → IsIn x b → x ≤ℤ pos 0)
    → IsHull is_nonzero floor_quotient a i lo hi → IsHull is_nonzero floor_quotient a b lo hi
below_alone a b i lo hi m n h = hull_wider is_nonzero floor_quotient a b i (λ x k. ((m x).0 k).0)
    (λ x k e. elim (side x e) [ inl s ↦ (m x).1 (k, s) | inr s ↦ absurd (let t : x ≤ℤ pos 0 = n x k in omega (arith, ints)) ]) lo hi h

pub both_sides : (a b i j : Interval) (lo hi lo' hi' : ℤ) → ((x : ℤ) → IsIn x i ↔ (IsIn x b × x <ℤ pos 0)) → ((x : ℤ) → IsIn x j ↔ (IsIn x b × pos 0 <ℤ x))
    → IsHull is_nonzero floor_quotient a i lo hi → IsHull is_nonzero floor_quotient a j lo' hi'
    → IsHull is_nonzero floor_quotient a b (int_min lo lo') (int_max hi hi')
both_sides a b i j lo hi lo' hi' m n h k = hull_of_two is_nonzero floor_quotient a b i j (λ x l. ((m x).0 l).0) (λ x l. ((n x).0 l).0)
    (λ x l e. elim (side x e) [ inl s ↦ inl ((m x).1 (l, s)) | inr s ↦ inr ((n x).1 (l, s)) ]) lo hi lo' hi' h k

-- ---- the zero divisor

pub zero_from : (y : ℤ) → is_nonzero y ≡ false → y ≡ pos 0
zero_from (pos zero) h = refl
zero_from (pos (suc y)) h = absurd (cc)
zero_from (negsuc y) h = absurd (cc)

pub zero_divides : (a b : Interval) → IsIn (pos 0) b ↔ Gives quotient a b (Err DivideByZero)
zero_divides a b = (
  λ h. record { left = a.least; right = pos 0; left_in = least_in a; right_in = h; gives = refl },
  λ g. rw (zero_from g.right (zero_is is_nonzero floor_quotient g.left g.right g.gives)) at g.right_in,
)

pub quotient_told : (a b : Interval) (lo hi : ℤ) (r : Found) → IsHull is_nonzero floor_quotient a b lo hi → IsCut lo hi r.value r.may_overflow
    → IsTrue r.may_divide_by_zero ↔ IsIn (pos 0) b → Tells quotient a b r
quotient_told a b lo hi r h c z = record {
  sound = sound_told is_nonzero floor_quotient a b lo hi r.value r.may_overflow h c;
  overflow = overflow_told is_nonzero floor_quotient a b lo hi r.value r.may_overflow h c;
  zero = (λ t. (zero_divides a b).0 (z.0 t), λ g. z.1 ((zero_divides a b).1 g));
}
