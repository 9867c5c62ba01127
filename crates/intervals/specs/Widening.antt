-- Ends that move to marks (this project's own profile).
use Rattle.std.specs.Prelude.{ℤ, ℕ, pos, negsuc, ◌≡◌, ◌≤ℤ◌, ◌⊎◌, ◌||◌, ◌∷◌, List, length, Bool, int_lt}
use Rattle.std.specs.List.{All, Contains, filter}
use Rattle.intervals.specs.declared.interval.Interval.{Interval}

-- the greatest mark that is at most a value, or the least number of 64 bits
pub record IsMarkBelow (marks : List ℤ) (value mark : ℤ) : Type 0 where
  pub at_most : mark ≤ℤ value
  pub is_one : (mark ≡ negsuc 9223372036854775807) ⊎ Contains marks mark
  pub nearest : All (λ m. m ≤ℤ value → m ≤ℤ mark) marks

-- the least mark that is at least a value, or the greatest number of 64 bits
pub record IsMarkAbove (marks : List ℤ) (value mark : ℤ) : Type 0 where
  pub at_least : value ≤ℤ mark
  pub is_one : (mark ≡ pos 9223372036854775807) ⊎ Contains marks mark
  pub nearest : All (λ m. value ≤ℤ m → mark ≤ℤ m) marks

-- a number is outside an interval
abbrev pub is_outside : Interval → ℤ → Bool
is_outside i m = int_lt m i.least || int_lt i.greatest m

-- how many marks are outside an interval, with the ends of 64 bits
abbrev pub marks_outside : List ℤ → Interval → ℕ
marks_outside marks i = length (filter (is_outside i) (negsuc 9223372036854775807 ∷ (pos 9223372036854775807 ∷ marks)))
