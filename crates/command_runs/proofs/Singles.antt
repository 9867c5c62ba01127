-- The one input of a scope that has no other, and what its run tells.
use Rattle.std.proofs.Common.{◌≡◌, ◌∙◌, ℕ, ◌≤◌, List, [], ◌∷◌, ℤ, ◌≤ℤ◌, ◌⊎◌, inl, inr, length, replicate, ap, arith, refl, subst, sym}
use Rattle.std.proofs.Common.{Option, Some, None, Result, Ok, Err, IfOk, IfSome, IsSomeAnd}
use Rattle.std.specs.List.{AllByRecursion}
use Rattle.std.proofs.lemmas.Int.{ints}
use Rattle.pram_check.specs.Checked.{Checked}
use Rattle.write_rules.specs.Verdict.{Verdict, Ended}
use Rattle.pram_meaning.specs.Outcome.{HasOneOutcome, IsOutcome}
use Rattle.pram_meaning.proofs.OneOutcome.{one_outcome}
use Rattle.intervals.specs.declared.interval.Interval.{Interval}
use Rattle.intervals.specs.Intervals.{IsIn}
use Rattle.costs.specs.Cost.{time}
use Rattle.costs.specs.Steps.{run_steps}
use Rattle.all_inputs.specs.Overall.{IsInScope, IsJust, IsToldOf, MayEndBehind}
use Rattle.all_inputs.specs.declared.ending.Ending.{Ending}
use Rattle.all_inputs.specs.declared.overall.Overall.{Overall}
use Rattle.all_inputs.specs.declared.scope.Scope.{Scope}

only_one : (i : Interval) (z : ℤ) → i.greatest ≤ℤ i.least → IsIn z i → z ≡ i.least
only_one i z low is = let a = is.least in let b = is.greatest in omega (arith, ints, low, a, b)

-- of an interval of one number each value is that number
all_same : (i : Interval) (zs : List ℤ) → i.greatest ≤ℤ i.least → AllByRecursion (λ z. IsIn z i) zs → zs ≡ replicate (length zs) i.least
all_same i [] low h = refl
all_same i (z ∷ zs) low h =
    subst (λ (y : ℤ). y ∷ zs ≡ i.least ∷ replicate (length zs) i.least) (sym (only_one i z low h.0)) (ap (λ (ys : List ℤ). i.least ∷ ys)
    (all_same i zs low h.1))

none_same : (low : ℤ) (zs : List ℤ) → length zs ≡ 0 → zs ≡ replicate (length zs) low
none_same low [] none = refl
none_same low (z ∷ zs) none = absurd (omega (arith, none))

-- each input of such a scope has the one number throughout
pub the_one : (scope : Scope) (zs : List ℤ) → (scope.values ≡ 0) ⊎ (scope.of.greatest ≤ℤ scope.of.least) → IsInScope scope zs →
    zs ≡ replicate scope.values scope.of.least
the_one scope zs (inl none) is =
    none_same scope.of.least zs (is.values ∙ none) ∙ ap (λ n. replicate n scope.of.least) is.values
the_one scope zs (inr low) is = all_same scope.of zs low is.each ∙ ap (λ n. replicate n scope.of.least) is.values

-- two outcomes on one input are the same
pub same_outcome : (p : Checked) (input : List ℤ) (n : ℕ) (v w : Verdict) → IsOutcome p input n v → IsOutcome p input n w → v ≡ w
same_outcome p input n v w is also =
    let one : HasOneOutcome p input n = one_outcome p input n in one.alone v is ∙ sym (one.alone w also)

ends_within : (P : Ending → Type 0) (end : Option Ending) (t s : ℕ) → IsSomeAnd end P → IfSome end (λ e. (e.least ≡ t) × (e.most ≡ t)) → t ≡ s →
    IsSomeAnd end (λ e. (e.least ≤ s) × (s ≤ e.most))
ends_within P None t s some counts same = some
ends_within P (Some e) t s some counts same =
    let least = counts.0 in let most = counts.1 in (omega (arith, least, same), omega (arith, most, same))

module _ (p : Checked) (input : List ℤ) (n : ℕ) (v : Verdict) (is : IsOutcome p input n v) where
  -- what is told of the outcome is told of each
  pub told_so : {E : Type 0} (r : Result Overall E) → IfOk r (λ o. IsJust o v) → IfOk r (λ o. IsToldOf p.layout o v) →
      IfOk r (λ o. (w : Verdict) → IsOutcome p input n w → IsJust o w × IsToldOf p.layout o w)
  told_so (Ok o) just told =
      λ w also. let e = same_outcome p input n v w is also in (subst (IsJust o) e just, subst (IsToldOf p.layout o) e told)
  told_so (Err e) just told = tt

  -- and the time of a run that ends is told
  pub timed_so : {E : Type 0} (r : Result Overall E) (t : ℕ) → IfOk r (λ o. IsJust o v) →
      IfOk r (λ o. IfSome o.end (λ e. (e.least ≡ t) × (e.most ≡ t))) → t ≡ time (run_steps p input n) →
      IfOk r (λ o. (output memory : List ℤ) → IsOutcome p input n (Ended output memory) → MayEndBehind o (time (run_steps p input n)))
  timed_so (Ok o) t just counts same =
      λ output memory also.
      let j : IsJust o (Ended output memory) = subst (IsJust o) (same_outcome p input n v (Ended output memory) is also) just in
      ends_within _ o.end t (time (run_steps p input n)) j.2 counts same
  timed_so (Err e) t just counts same = tt
