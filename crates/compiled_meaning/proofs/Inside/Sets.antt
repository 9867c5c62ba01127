-- The set of a frame, as processors of a range.
use Rattle.std.proofs.Common.{◌≡◌, ℕ, zero, suc, ◌+◌, ◌<◌, ◌∷◌, Bool, true, false, cond, refl, sym, ap, ◌∙◌, arith}
use Rattle.std.specs.Prelude.{◌&&◌}
use Rattle.std.specs.List.{filter, range_with_len}
use Rattle.superstep_machine.specs.Steps.{under, is_active}
use Rattle.flat_machine.specs.Flat.{Flat}
use Rattle.flat_stretches.specs.Frames.{Frame, StandsIn, present}
use Rattle.flat_stretches.proofs.Sets.{filter_same, filter_twice}
use Rattle.compiled_formulas.specs.Inside.{active_ones}

-- two tests that agree on a range
filter_within : (p q : ℕ → Bool) (n k : ℕ) → ((v : ℕ) → v < k + n → p v ≡ q v) →
    filter p (range_with_len k n) ≡ filter q (range_with_len k n)
filter_within p q zero k h = refl
filter_within p q (suc n) k h =
    let rest = filter_within p q n (k + 1) (λ v l. h v (omega (arith, l))) in
    λ i. cond (h k (omega arith) i) (k ∷ rest i) (rest i)

-- two tests that agree on a set
pub tests_agree : (fr : Frame) (t s : ℕ → Bool) → ((v : ℕ) → v < fr.width → under (fr.masks v) ≡ true → t v ≡ s v) →
    filter t (present fr) ≡ filter s (present fr)
tests_agree fr t s h =
    filter_twice (λ v. under (fr.masks v)) t (range_with_len 0 fr.width)
    ∙ filter_within (λ v. under (fr.masks v) && t v) (λ v. under (fr.masks v) && s v) fr.width 0
    (λ v l. go v (omega (arith, l)) (under (fr.masks v)) refl)
    ∙ sym (filter_twice (λ v. under (fr.masks v)) s (range_with_len 0 fr.width))
  where
    go : (v : ℕ) → v < fr.width → (b : Bool) → under (fr.masks v) ≡ b → (b && t v) ≡ (b && s v)
    go v l true e = h v l e
    go v l false e = refl

-- the processors that are active are the frame's set
pub active_are_present : (first base : ℕ) (fr : Frame) (f : Flat) → StandsIn first base fr f → active_ones f ≡ present fr
active_are_present first base fr f s =
    ap (λ w. filter (λ v. is_active (f.own v)) (range_with_len 0 w)) s.width
    ∙ filter_same (λ v. is_active (f.own v)) (λ v. under (fr.masks v)) (λ v. ap under (s.masks v)) (range_with_len 0 fr.width)
