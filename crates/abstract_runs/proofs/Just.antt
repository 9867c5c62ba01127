-- Intervals of one number each.
use Rattle.std.proofs.Common.{◌≡◌, ℕ, zero, suc, ◌+◌, ◌<◌, List, [], ◌∷◌, ◌++◌, ℤ, ◌≤ℤ◌, length, take, subst, sym, arith, refl}
use Rattle.std.specs.Prelude.{slice_index_or}
use Rattle.std.proofs.lemmas.Int.{ints}
use Rattle.intervals.specs.declared.interval.Interval.{Interval}
use Rattle.intervals.specs.Intervals.{IsIn}
use Rattle.all_inputs.specs.Overall.{AreJust, Cover}

just_suc : (is : List Interval) (zs : List ℤ) (k : ℕ) (i : Interval) (d : ℤ) → k < length zs → AreJust is (take k zs) →
    i.least ≡ slice_index_or zs k d → i.greatest ≡ slice_index_or zs k d → AreJust (is ++ i ∷ []) (take (suc k) zs)
just_suc is [] k i d below h l g = absurd (omega (arith, below))
just_suc [] (z ∷ zs) zero i d below h l g = (l, g, tt)
just_suc (x ∷ is) (z ∷ zs) zero i d below h l g = absurd h
just_suc [] (z ∷ zs) (suc k) i d below h l g = absurd h
just_suc (x ∷ is) (z ∷ zs) (suc k) i d below h l g = (h.0, h.1, just_suc is zs k i d (omega (arith, below)) h.2 l g)

-- one value more
pub just_next : (is : List Interval) (zs : List ℤ) (k : ℕ) (i : Interval) (d : ℤ) → k < length zs → AreJust is (take k zs) →
    i.least ≡ slice_index_or zs k d → i.greatest ≡ slice_index_or zs k d → AreJust (is ++ i ∷ []) (take (k + 1) zs)
just_next is zs k i d below h l g =
    let e : suc k ≡ k + 1 = omega arith in subst (λ j. AreJust (is ++ i ∷ []) (take j zs)) e (just_suc is zs k i d below h l g)

in_point : (i : Interval) (z : ℤ) → i.least ≡ z → i.greatest ≡ z → IsIn z i
in_point i z l g = record { least = omega (arith, ints, l); greatest = omega (arith, ints, g) }

-- they hold their values
pub just_cover : (is : List Interval) (zs : List ℤ) → AreJust is zs → Cover is zs
just_cover [] [] h = tt
just_cover [] (z ∷ zs) h = absurd h
just_cover (i ∷ is) [] h = absurd h
just_cover (i ∷ is) (z ∷ zs) h = (in_point i z h.0 h.1, just_cover is zs h.2)
