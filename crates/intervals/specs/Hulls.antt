-- The least and the greatest of what a function of whole numbers comes to (this project's own profile).
use Rattle.std.specs.Prelude.{ℤ, ◌≡◌, ◌≤ℤ◌, Bool, true}
use Rattle.intervals.specs.declared.interval.Interval.{Interval}
use Rattle.intervals.specs.declared.found.Found.{Found}
use Rattle.intervals.specs.Intervals.{IsIn}
use Rattle.intervals.specs.Cuts.{IsCut}

-- f comes to this on members of a and b of which the right one passes
pub record Reaches (p : ℤ → Bool) (f : ℤ → ℤ → ℤ) (a b : Interval) (z : ℤ) : Type 0 where
  pub left : ℤ
  pub right : ℤ
  pub left_in : IsIn left a
  pub right_in : IsIn right b
  pub passes : p right ≡ true
  pub is : f left right ≡ z

-- lo and hi are the least and the greatest that f comes to there
pub record IsHull (p : ℤ → Bool) (f : ℤ → ℤ → ℤ) (a b : Interval) (lo hi : ℤ) : Type 0 where
  pub above : (x y : ℤ) → IsIn x a → IsIn y b → p y ≡ true → lo ≤ℤ f x y
  pub below : (x y : ℤ) → IsIn x a → IsIn y b → p y ≡ true → f x y ≤ℤ hi
  pub least : Reaches p f a b lo
  pub greatest : Reaches p f a b hi

-- what is found is the part of 64 bits of the least range that holds what f comes to
pub record IsCutHull (p : ℤ → Bool) (f : ℤ → ℤ → ℤ) (a b : Interval) (r : Found) : Type 0 where
  pub lo : ℤ
  pub hi : ℤ
  pub hull : IsHull p f a b lo hi
  pub cut : IsCut lo hi r.value r.may_overflow
