-- The part of 64 bits of a range of whole numbers (this project's own profile).
use Rattle.std.specs.Prelude.{ℤ, pos, negsuc, ◌≡◌, ◌≤ℤ◌, Option, Bool, true, not, ◌&&◌, IsSomeAnd, IfSome}
use Rattle.std.specs.Int.{int_min, int_max}
use Rattle.pram_values.specs.Value.{fits}
use Rattle.intervals.specs.declared.interval.Interval.{Interval}
use Rattle.intervals.specs.Intervals.{IsIn}

-- the part of 64 bits of the range from lo to hi, and whether that is not all of it
pub record IsCut (lo hi : ℤ) (value : Option Interval) (over : Bool) : Type 0 where
  pub holds : (z : ℤ) → lo ≤ℤ z → z ≤ℤ hi → fits z ≡ true → IsSomeAnd value (λ i. IsIn z i)
  pub least : IfSome value (λ i. i.least ≡ int_max lo (negsuc 9223372036854775807))
  pub greatest : IfSome value (λ i. i.greatest ≡ int_min hi (pos 9223372036854775807))
  pub told : over ≡ not (fits lo && fits hi)
