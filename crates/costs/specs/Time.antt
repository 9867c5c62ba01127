-- The time of a run, beside the bound within which it is run.
use Rattle.std.specs.Prelude.{◌≡◌, ◌≤◌, ◌<◌, ◌↔◌, ℕ, List, ℤ}
use Rattle.pram_check.specs.Checked.{Checked}
use Rattle.write_rules.specs.Verdict.{Ended, Faulted, GoesOn, Verdict}
use Rattle.pram_meaning.specs.Outcome.{IsOutcome}
use Rattle.moment_laws.specs.Following.{IsFinal}
use Rattle.costs.specs.Cost.{time}
use Rattle.costs.specs.Steps.{run_steps}

-- a time within a bound: where the run goes on it is the bound
abbrev pub IsTimeWithin : Verdict → (t bound : ℕ) → Type 0
IsTimeWithin (Ended output memory) t bound = t ≤ bound
IsTimeWithin (Faulted fault output) t bound = t ≤ bound
IsTimeWithin (GoesOn output) t bound = t ≡ bound

-- The time of a run is at most its bound.
abbrev pub TimeIsWithinTheBound : Type 0
TimeIsWithinTheBound = (p : Checked) (input : List ℤ) (n : ℕ) → time (run_steps p input n) ≤ n

-- Where the run goes on, it is the bound.
abbrev pub GoingOnTakesTheBound : Type 0
GoingOnTakesTheBound =
    (p : Checked) (input : List ℤ) (n : ℕ) (output : List ℤ) → IsOutcome p input n (GoesOn output) → time (run_steps p input n) ≡ n

-- A program that ends or faults does so within a bound exactly where its time is at most that bound,
abbrev pub TimeIsTheLeastBound : Type 0
TimeIsTheLeastBound =
    (p : Checked) (input : List ℤ) (n : ℕ) (v : Verdict) → IsOutcome p input n v → IsFinal v → (m : ℕ) →
    IsOutcome p input m v ↔ (time (run_steps p input n) ≤ m)

-- and goes on within a bound exactly where its time is greater.
abbrev pub GoesOnBeforeTheTime : Type 0
GoesOnBeforeTheTime =
    (p : Checked) (input : List ℤ) (n : ℕ) (v : Verdict) → IsOutcome p input n v → IsFinal v → (m : ℕ) →
    ((output : List ℤ) × IsOutcome p input m (GoesOn output)) ↔ (m < time (run_steps p input n))
