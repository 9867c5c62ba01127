-- Values that lie in intervals, place by place.
use Rattle.std.proofs.Common.{◌≡◌, ℕ, zero, suc, List, [], ◌∷◌, ℤ, pos, refl, subst, sym, length, get_or, ◌<◌, ◌≤◌, arith}
use Rattle.std.specs.Prelude.{slice_index_or}
use Rattle.intervals.specs.declared.interval.Interval.{Interval}
use Rattle.intervals.specs.Intervals.{IsIn}
use Rattle.all_inputs.specs.Overall.{Cover}

pub covered_read : (is : List Interval) (zs : List ℤ) (k : ℕ) (i : Interval) → k < length is → i ≡ get_or is k i → Cover is zs →
    IsIn (slice_index_or zs k (pos 0)) i
covered_read [] zs k i below e h = absurd (omega (arith, below))
covered_read (x ∷ is) [] k i below e h = absurd h
covered_read (x ∷ is) (z ∷ zs) zero i below e h = subst (λ x. IsIn z x) (sym e) h.0
covered_read (x ∷ is) (z ∷ zs) (suc k) i below e h = covered_read is zs k i (omega (arith, below)) e h.1

pub covered_past : (is : List Interval) (zs : List ℤ) (k : ℕ) → length is ≤ k → Cover is zs → slice_index_or zs k (pos 0) ≡ pos 0
covered_past [] [] k past h = refl
covered_past [] (z ∷ zs) k past h = absurd h
covered_past (x ∷ is) [] k past h = refl
covered_past (x ∷ is) (z ∷ zs) zero past h = absurd (omega (arith, past))
covered_past (x ∷ is) (z ∷ zs) (suc k) past h = covered_past is zs k (omega (arith, past)) h.1
