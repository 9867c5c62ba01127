-- Values that are set, and the intervals in which they lie.
use Rattle.std.proofs.Common.{◌≡◌, ℕ, zero, suc, List, [], ◌∷◌, ℤ, pos, Bool, true, false, refl, ap, subst, length, ◌<◌, ◌≤◌, ◌+◌, arith}
use Rattle.std.proofs.Common.{tests, nat_lt}
use Rattle.std.specs.Prelude.{slice_set, slice_index_or}
use Rattle.intervals.specs.declared.interval.Interval.{Interval}
use Rattle.intervals.specs.Intervals.{IsIn}
use Rattle.all_inputs.specs.Overall.{Cover}

pub cover_set : (is : List Interval) (zs : List ℤ) (k : ℕ) (i : Interval) (v : ℤ) → Cover is zs → IsIn v i →
    Cover (slice_set is k i) (slice_set zs k v)
cover_set [] [] k i v h g = tt
cover_set (x ∷ is) [] k i v h g = absurd h
cover_set [] (z ∷ zs) k i v h g = absurd h
cover_set (x ∷ is) (z ∷ zs) zero i v h g = (g, h.1)
cover_set (x ∷ is) (z ∷ zs) (suc k) i v h g = (h.0, cover_set is zs k i v h.1 g)

pub cover_past : (is : List Interval) (zs : List ℤ) (k : ℕ) (v : ℤ) → Cover is zs → length is ≤ k → Cover is (slice_set zs k v)
cover_past [] [] k v h past = tt
cover_past (x ∷ is) [] k v h past = absurd h
cover_past [] (z ∷ zs) k v h past = absurd h
cover_past (x ∷ is) (z ∷ zs) zero v h past = absurd (omega (arith, past))
cover_past (x ∷ is) (z ∷ zs) (suc k) v h past = (h.0, cover_past is zs k v h.1 (omega (arith, past)))

set_own : (zs : List ℤ) (k : ℕ) → slice_set zs k (slice_index_or zs k (pos 0)) ≡ zs
set_own [] k = refl
set_own (z ∷ zs) zero = refl
set_own (z ∷ zs) (suc k) = ap (λ zs. z ∷ zs) (set_own zs k)

-- what may be set may also stay
pub cover_stays : (new : List Interval) (zs : List ℤ) (k : ℕ) → Cover new (slice_set zs k (slice_index_or zs k (pos 0))) → Cover new zs
cover_stays new zs k h = subst (Cover new) (set_own zs k) h

-- one cell more that may be set
pub set_on : (least c d : ℕ) (old now new : List Interval) (value : Interval) (zs : List ℤ) (v : ℤ) →
    ((d : ℕ) → least ≤ d → d < c → Cover now (slice_set zs d v)) → Cover now zs →
    ((zs : List ℤ) → Cover now zs → Cover new (slice_set zs c v)) → ((zs : List ℤ) → Cover now zs → Cover new zs) →
    least ≤ d → d < c + 1 → Cover new (slice_set zs d v)
set_on least c d old now new value zs v before h here stays low below = by (nat_lt d c) refl
  where
    by : (b : Bool) → nat_lt d c ≡ b → Cover new (slice_set zs d v)
    by true e = stays (slice_set zs d v) (before d low (grind (arith, tests, e)))
    by false e = let same : c ≡ d = grind (arith, tests, e, below) in subst (λ d. Cover new (slice_set zs d v)) same (here zs h)
