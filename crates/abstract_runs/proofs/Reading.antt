-- Cells that are joined one after the other.
use Rattle.std.proofs.Common.{◌≡◌, ℕ, List, ℤ, pos, Bool, true, false, refl, subst, ◌+◌, ◌<◌, ◌≤◌, nat_lt, arith, tests}
use Rattle.std.specs.Prelude.{slice_index_or}
use Rattle.intervals.specs.declared.interval.Interval.{Interval}
use Rattle.intervals.specs.Intervals.{IsIn, IsJoin}
use Rattle.all_inputs.specs.Overall.{Cover}

pub joined_on : (is : List Interval) (least c : ℕ) (found more joined : Interval) →
    ((zs : List ℤ) (d : ℕ) → Cover is zs → least ≤ d → d < c → IsIn (slice_index_or zs d (pos 0)) found) →
    ((zs : List ℤ) → Cover is zs → IsIn (slice_index_or zs c (pos 0)) more) → IsJoin found more joined →
    (zs : List ℤ) (d : ℕ) → Cover is zs → least ≤ d → d < c + 1 → IsIn (slice_index_or zs d (pos 0)) joined
joined_on is least c found more joined before here join zs d h low below = by (nat_lt d c) refl
  where
    by : (b : Bool) → nat_lt d c ≡ b → IsIn (slice_index_or zs d (pos 0)) joined
    by true e = join.left _ (before zs d h low (grind (arith, tests, e)))
    by false e =
        let same : c ≡ d = grind (arith, tests, e, below) in
        subst (λ d. IsIn (slice_index_or zs d (pos 0)) joined) same (join.right _ (here zs h))
