-- What is left of an interval where a comparison of its members holds.
use Rattle.std.proofs.Common.{◌≡◌, ℕ, ℤ, pos, true, List, Option, Some, None, IsSomeAnd, subst}
use Rattle.std.specs.Prelude.{slice_set, slice_index_or}
use Rattle.intervals.specs.declared.comparison.Comparison.{Comparison}
use Rattle.intervals.specs.declared.interval.Interval.{Interval}
use Rattle.intervals.specs.Comparisons.{holds}
use Rattle.intervals.specs.Intervals.{IsIn}
use Rattle.intervals.specs.Narrowing.{IsNarrowed}
use Rattle.all_inputs.specs.Overall.{Cover}
use Rattle.abstract_runs.proofs.Setting.{cover_stays}

module _ (comparison : Comparison) (a b : Interval) (found : Option Interval) (x y : ℤ) (is : IsNarrowed comparison a b found) (i : IsIn x a)
    (j : IsIn y b) (h : holds comparison x y ≡ true) where
  remains : IsSomeAnd found (λ i. IsIn x i)
  remains = is.kept x (record { is_in = i; right = y; right_in = j; is = h })

  pub nothing_left : found ≡ None → ⊥
  nothing_left none = subst (λ f. IsSomeAnd f (λ i. IsIn x i)) none remains

  pub left_in : (left : Interval) → found ≡ Some left → IsIn x left
  left_in left some = subst (λ f. IsSomeAnd f (λ i. IsIn x i)) some remains

-- a value that is among those set may stay as it is
pub place_left : (new : List Interval) (zs : List ℤ) (place : ℕ) (left : Interval) →
    ((v : ℤ) → IsIn v left → Cover new (slice_set zs place v)) → IsIn (slice_index_or zs place (pos 0)) left → Cover new zs
place_left new zs place left set i = cover_stays new zs place (set (slice_index_or zs place (pos 0)) i)
