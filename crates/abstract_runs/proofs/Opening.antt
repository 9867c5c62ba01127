-- What is known before the first statement.
use Rattle.std.proofs.Common.{◌≡◌, ℕ, zero, suc, ◌-◌, List, [], ◌∷◌, ◌++◌, ℤ, pos, length, replicate, sym, subst, ap, ◌∙◌, arith}
use Rattle.std.specs.List.{AllByRecursion}
use Rattle.intervals.specs.declared.interval.Interval.{Interval}
use Rattle.intervals.specs.Intervals.{IsIn}
use Rattle.all_inputs.specs.declared.scope.Scope.{Scope}
use Rattle.all_inputs.specs.Overall.{Cover}
use Rattle.all_inputs.specs.Overall.{IsInScope}

pub cover_each : (n : ℕ) (i : Interval) (zs : List ℤ) → length zs ≡ n → AllByRecursion (λ z. IsIn z i) zs → Cover (replicate n i) zs
cover_each zero i [] e h = tt
cover_each zero i (z ∷ zs) e h = absurd (omega (arith, e))
cover_each (suc n) i [] e h = absurd (omega (arith, e))
cover_each (suc n) i (z ∷ zs) e h = (h.0, cover_each n i zs (omega (arith, e)) h.1)

pub cover_same : (n : ℕ) (i : Interval) (z : ℤ) → IsIn z i → Cover (replicate n i) (replicate n z)
cover_same zero i z h = tt
cover_same (suc n) i z h = (h, cover_same n i z h)

pub cover_append : (is js : List Interval) (zs ws : List ℤ) → Cover is zs → Cover js ws → Cover (is ++ js) (zs ++ ws)
cover_append [] js [] ws h g = g
cover_append [] js (z ∷ zs) ws h g = absurd h
cover_append (i ∷ is) js [] ws h g = absurd h
cover_append (i ∷ is) js (z ∷ zs) ws h g = (h.0, cover_append is js zs ws h.1 g)

pub cover_opening : (scope : Scope) (cells : ℕ) (zero_alone : Interval) (known : List Interval) (more : ℕ) (input : List ℤ) →
    known ≡ replicate scope.values scope.of ++ replicate more zero_alone → more ≡ cells - scope.values → IsIn (pos 0) zero_alone →
    IsInScope scope input → Cover known (input ++ replicate (cells - length input) (pos 0))
cover_opening scope cells zero_alone known more input e m z h =
    subst (λ k. Cover k (input ++ replicate (cells - length input) (pos 0))) (sym e)
    (cover_append (replicate scope.values scope.of) (replicate more zero_alone) input (replicate (cells - length input) (pos 0))
    (cover_each scope.values scope.of input h.values h.each)
    (subst (λ n. Cover (replicate more zero_alone) (replicate n (pos 0))) (m ∙ ap (λ n. cells - n) (sym h.values))
    (cover_same more zero_alone (pos 0) z)))
