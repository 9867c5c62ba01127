-- What is left of an interval where a comparison holds (this project's own profile).
use Rattle.std.specs.Prelude.{ℤ, ◌≡◌, true, Option, IsSomeAnd, IfSome}
use Rattle.intervals.specs.declared.comparison.Comparison.{Comparison}
use Rattle.intervals.specs.declared.interval.Interval.{Interval}
use Rattle.intervals.specs.Intervals.{IsIn}
use Rattle.intervals.specs.Comparisons.{holds}

-- x is in a, and the comparison holds of it and some member of b
pub record Remains (c : Comparison) (a b : Interval) (x : ℤ) : Type 0 where
  pub is_in : IsIn x a
  pub right : ℤ
  pub right_in : IsIn right b
  pub is : holds c x right ≡ true

-- the least interval that holds what remains, if anything does
pub record IsNarrowed (c : Comparison) (a b : Interval) (o : Option Interval) : Type 0 where
  pub kept : (x : ℤ) → Remains c a b x → IsSomeAnd o (λ i. IsIn x i)
  pub reached : IfSome o (λ i. Remains c a b i.least × Remains c a b i.greatest)
