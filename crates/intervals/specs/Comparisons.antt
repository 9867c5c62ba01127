-- When comparisons hold, and what tests come to on the members of intervals (this project's own profile).
use Rattle.std.specs.Prelude.{ℤ, ◌≡◌, Bool, not, int_lt, int_le}
use Rattle.pram_values.specs.Truth.{is_equal}
use Rattle.intervals.specs.declared.comparison.Comparison.{Comparison}
use Rattle.intervals.specs.declared.comparison.Comparison.TheVariants.{Equal, Unequal, Less, AtMost, Greater, AtLeast}
use Rattle.intervals.specs.declared.interval.Interval.{Interval}
use Rattle.intervals.specs.Intervals.{IsIn}

-- whether a comparison of two numbers holds
abbrev pub holds : Comparison → ℤ → ℤ → Bool
holds Equal x y = is_equal x y
holds Unequal x y = not (is_equal x y)
holds Less x y = int_lt x y
holds AtMost x y = int_le x y
holds Greater x y = int_lt y x
holds AtLeast x y = int_le y x

-- a test comes to this on some member of a and some of b
pub record Comes (test : ℤ → ℤ → Bool) (a b : Interval) (v : Bool) : Type 0 where
  pub left : ℤ
  pub right : ℤ
  pub left_in : IsIn left a
  pub right_in : IsIn right b
  pub is : test left right ≡ v

-- a test of one number comes to this on some member of a
pub record ComesOnOne (test : ℤ → Bool) (a : Interval) (v : Bool) : Type 0 where
  pub member : ℤ
  pub is_in : IsIn member a
  pub is : test member ≡ v
