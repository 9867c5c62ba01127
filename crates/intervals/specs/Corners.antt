-- The least and the greatest of what a function gives on the ends of two intervals (this project's own profile).
use Rattle.std.specs.Prelude.{ℤ}
use Rattle.std.specs.Int.{int_min, int_max}
use Rattle.intervals.specs.declared.interval.Interval.{Interval}

-- the least at the four pairs of ends
abbrev pub least_corner : (ℤ → ℤ → ℤ) → Interval → Interval → ℤ
least_corner f a b =
    int_min (int_min (f a.least b.least) (f a.least b.greatest)) (int_min (f a.greatest b.least) (f a.greatest b.greatest))

-- the greatest at the four pairs of ends
abbrev pub greatest_corner : (ℤ → ℤ → ℤ) → Interval → Interval → ℤ
greatest_corner f a b =
    int_max (int_max (f a.least b.least) (f a.least b.greatest)) (int_max (f a.greatest b.least) (f a.greatest b.greatest))
