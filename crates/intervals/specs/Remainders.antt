-- What is known of remainders by all divisors of an interval (this project's own profile).
use Rattle.std.specs.Prelude.{ℤ, pos, ◌≡◌, ◌≢◌, ◌↔◌, ◌⊎◌, ◌+ℤ◌, ◌-ℤ◌, ◌≤ℤ◌, ◌<ℤ◌, Option, IsNone, IfSome}
use Rattle.std.specs.Int.{int_min, int_max}
use Rattle.pram_values.specs.Division.{floor_quotient}
use Rattle.intervals.specs.declared.interval.Interval.{Interval}
use Rattle.intervals.specs.Intervals.{IsIn}

-- b has one member, not 0, by which all members of a have the same quotient
pub record HasOneQuotient (a b : Interval) : Type 0 where
  pub point : b.least ≡ b.greatest
  pub nonzero : b.least ≢ pos 0
  pub same : floor_quotient a.least b.least ≡ floor_quotient a.greatest b.least

-- how far above 0 remainders come: short of the greatest divisor, and at most to the greatest of a where none is below 0
pub record IsHighest (a b : Interval) (h : ℤ) : Type 0 where
  pub capped : pos 0 ≤ℤ a.least → pos 0 <ℤ b.least → h ≡ int_min (int_max (pos 0) (b.greatest -ℤ pos 1)) a.greatest
  pub free : (a.least <ℤ pos 0) ⊎ (b.least ≤ℤ pos 0) → h ≡ int_max (pos 0) (b.greatest -ℤ pos 1)

-- i goes from 0, or short of the least divisor, to there
pub record IsRemainderRange (a b i : Interval) : Type 0 where
  pub least : i.least ≡ int_min (pos 0) (b.least +ℤ pos 1)
  pub greatest : IsHighest a b i.greatest

-- 0 is the one member
abbrev pub IsZeroAlone : Interval → Type 0
IsZeroAlone b = (y : ℤ) → IsIn y b → y ≡ pos 0

-- the value found is that range but for one quotient, and there is none exactly where 0 is the one divisor
pub record AreRemainders (a b : Interval) (value : Option Interval) : Type 0 where
  pub range : (HasOneQuotient a b → ⊥) → IfSome value (λ i. IsRemainderRange a b i)
  pub none : IsNone value ↔ IsZeroAlone b
