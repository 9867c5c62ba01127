-- Intervals of whole numbers, as sets of their members (this project's own profile).
use Rattle.std.specs.Prelude.{ℤ, ◌≡◌, ◌≤ℤ◌, ◌↔◌, Option, Some, None}
use Rattle.intervals.specs.declared.interval.Interval.{Interval}

-- a number is a member of an interval
pub record IsIn (x : ℤ) (i : Interval) : Type 0 where
  pub least : i.least ≤ℤ x
  pub greatest : x ≤ℤ i.greatest

-- each member of i is one of j
abbrev pub IsWithin : Interval → Interval → Type 0
IsWithin i j = (x : ℤ) → IsIn x i → IsIn x j

-- x is the one member
pub record IsPoint (x : ℤ) (i : Interval) : Type 0 where
  pub least : i.least ≡ x
  pub greatest : i.greatest ≡ x

-- j is the least interval that holds both a and b
pub record IsJoin (a b j : Interval) : Type 0 where
  pub left : IsWithin a j
  pub right : IsWithin b j
  pub least : (i : Interval) → IsWithin a i → IsWithin b i → IsWithin j i

-- the numbers that are both in a and in b, if there are any
abbrev pub IsMeet : Interval → Interval → Option Interval → Type 0
IsMeet a b None = (x : ℤ) → IsIn x a → IsIn x b → ⊥
IsMeet a b (Some i) = (x : ℤ) → IsIn x i ↔ (IsIn x a × IsIn x b)
