-- Runs that are to be told as they go.
use Rattle.std.proofs.Common.{◌≡◌, ◌∙◌, ◌≤◌, ◌<◌, ◌*◌, ℕ, ℤ, List, None, Option, Some, ap, arith, refl, subst, sym}
use Rattle.std.specs.Option.{option_map}
use Rattle.std.specs.Prelude.{◌↔◌, Result, Err, length}
use Rattle.pram_model.specs.Layout.{total_size}
use Rattle.pram_meaning.specs.Outcome.{IsOutcome}
use Rattle.journal.specs.InTime.{EndsBy}
use Rattle.write_rules.specs.Verdict.{verdict_of}
use Rattle.write_rules.specs.declared.outcome.Outcome.{Outcome}
use Rattle.step_text.specs.declared.failure.StreamFailure.{StreamFailure}
use Rattle.step_text.specs.declared.failure.StreamFailure.TheVariants.{InputTooLong}
use Rattle.command_facts.specs.declared.found.FoundSteps.{FoundSteps}
use Rattle.command_facts.specs.Found.{EndsIn, IsOutcomeOf, cut_at, until_of}

not_too_long : (values cells : ℕ) → values ≤ cells → cells < values → ⊥
not_too_long values cells fits long = omega (arith, fits, long)

-- what is streamed of them doesn't fail for an input that is too long
pub never_long : {A : Type 0} (s : FoundSteps) (given : List ℤ) → given ≡ s.input.items → (r : Result A StreamFailure) (f : StreamFailure) →
    r ≡ Err f → (r ≡ Err InputTooLong) ↔ (total_size s.loaded.program.layout < length given) → f ≡ InputTooLong → ⊥
never_long {A} s given same r f is long e = not_too_long (length given) (total_size s.loaded.program.layout)
    (subst (λ (i : List ℤ). length i ≤ total_size s.loaded.program.layout) (sym same) s.fits) (long.0 (is ∙ ap Err e))

-- where the run was of the values that were handed over
pub outcome_by : (s : FoundSteps) (o : Outcome) (given : List ℤ) → given ≡ s.input.items →
    IsOutcome s.loaded.program given s.limit.bound (verdict_of o) → IsOutcomeOf s o
outcome_by s o given same is = record {
  fits = s.fits;
  outcome = subst (λ (i : List ℤ). IsOutcome s.loaded.program i s.limit.bound (verdict_of o)) same is;
}

-- the same within another bound
pub outcome_within : (s : FoundSteps) (k : ℕ) (o : Outcome) (given : List ℤ) → given ≡ s.input.items →
    IsOutcome s.loaded.program given k (verdict_of o) → IsOutcomeOf (cut_at s k) o
outcome_within s k o given same is = record {
  fits = s.fits;
  outcome = subst (λ (i : List ℤ). IsOutcome s.loaded.program i k (verdict_of o)) same is;
}

-- ---- where a run ends

-- all statements that a run has are no more than its limit
pub all_of_it : (s : FoundSteps) → EndsIn s s.limit.bound
all_of_it s = by s.limit.seconds
  where
    by : (seconds : Option ℕ) → EndsBy (option_map (λ seconds. seconds * 1000) seconds) s.limit.bound s.limit.bound
    by None = refl
    by (Some seconds) = omega arith

-- by the time that was handed over
pub ends_by : (s : FoundSteps) (until : Option ℕ) (k : ℕ) → until ≡ until_of s.limit → EndsBy until s.limit.bound k → EndsIn s k
ends_by s until k same ends = subst (λ until. EndsBy until s.limit.bound k) same ends
