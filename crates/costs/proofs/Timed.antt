-- The time of a run is the number of its statements, so it keeps to the bound.
use Rattle.std.proofs.Common.{◌≡◌, ◌≤◌, ◌<◌, ◌∙◌, ◌↔◌, ℕ, ℤ, List, [], ◌∷◌, ap, arith, length, refl, subst, sym}
use Rattle.std.specs.List.{flat_map}
use Rattle.pram_check.specs.Checked.{Checked}
use Rattle.write_rules.specs.Verdict.{Ended, Faulted, GoesOn, Verdict}
use Rattle.pram_meaning.specs.Moments.{Alone, Closed, Moment, Together, run_moments}
use Rattle.pram_meaning.specs.Outcome.{IsOutcome}
use Rattle.moment_laws.specs.Following.{statements}
use Rattle.moment_laws.proofs.Whole.{final_is_within, going_on_has_the_bound, goes_on_before, statements_are_within}
use Rattle.costs.specs.Cost.{time}
use Rattle.costs.specs.Steps.{run_steps, steps_of}
use Rattle.costs.specs.Time.{GoesOnBeforeTheTime, GoingOnTakesTheBound, IsTimeWithin, TimeIsTheLeastBound, TimeIsWithinTheBound}

counted : (ms : List Moment) → length (statements ms) ≡ time (flat_map steps_of ms)
counted [] = refl
counted (Alone here act before tried after ∷ ms) = let e = counted ms in omega (arith, e)
counted (Together here act before xs key after ∷ ms) = let e = counted ms in omega (arith, e)
counted (Closed ∷ ms) = counted ms

time_of : (p : Checked) (input : List ℤ) (n : ℕ) → length (statements (run_moments p input n)) ≡ time (run_steps p input n)
time_of p input n = counted (run_moments p input n)

pub time_is_within_the_bound : TimeIsWithinTheBound
time_is_within_the_bound p input n = subst (λ t. t ≤ n) (time_of p input n) (statements_are_within p input n)

pub going_on_takes_the_bound : GoingOnTakesTheBound
going_on_takes_the_bound p input n output is = sym (time_of p input n) ∙ going_on_has_the_bound p input n output is

pub time_is_the_least_bound : TimeIsTheLeastBound
time_is_the_least_bound p input n v is final k =
    subst (λ t. IsOutcome p input k v ↔ (t ≤ k)) (time_of p input n) (final_is_within p input n v is final k)

pub goes_on_before_the_time : GoesOnBeforeTheTime
goes_on_before_the_time p input n v is final k =
    subst (λ t. ((output : List ℤ) × IsOutcome p input k (GoesOn output)) ↔ (k < t)) (time_of p input n)
    (goes_on_before p input n v is final k)

-- the same of a time that was counted
pub time_kept : (p : Checked) (input : List ℤ) (n : ℕ) (v : Verdict) (t : ℕ) → IsOutcome p input n v → t ≡ time (run_steps p input n) →
    IsTimeWithin v t n
time_kept p input n (Ended output memory) t is e = let w = time_is_within_the_bound p input n in omega (arith, w, e)
time_kept p input n (Faulted fault output) t is e = let w = time_is_within_the_bound p input n in omega (arith, w, e)
time_kept p input n (GoesOn output) t is e = e ∙ going_on_takes_the_bound p input n output is
