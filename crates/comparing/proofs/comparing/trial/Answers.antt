use Rattle.std.proofs.Common.{◌≡◌, ◌∙◌, ap, ℕ}
use Rattle.pram_meaning.proofs.OneOutcome.{outcome_is_computed}
use Rattle.costs.specs.Cost.{time, work}
use Rattle.costs.specs.Steps.{run_steps}
use Rattle.write_rules.specs.Verdict.{Verdict, verdict_of}
use Rattle.scopes.specs.Runs.{verdict_on}
use Rattle.comparing.specs.Differences.{ending_of, first_difference, run_on}
use Rattle.comparing.proofs.comparing.trial.Goals as goal

pub returns-clause-trial : goal.returns-clause-trial
returns-clause-trial c =
    let p = c.args.first.now in
    let q = c.args.second.now in
    let k = c.args.compared.now in
    let n = c.args.bound in
    let m = c.second_bound-most.result in
    let input = c.args.input.now in
    let bound = c.second_bound-most.ensures in
    let one : verdict_of c.in-Ok.outcome ≡ verdict_on p n input =
    (outcome_is_computed p input n (verdict_of c.in-Ok.outcome)).0 c.in-Ok.ensures.outcome in
    let other : verdict_of c.in-Ok-time_and_work.other ≡ verdict_on q m input =
    (outcome_is_computed q input m (verdict_of c.in-Ok-time_and_work.other)).0 c.in-Ok-time_and_work.ensures.outcome in
    let taken : c.from-time.result ≡ time (run_steps q input m) = c.from-time.ensures ∙ c.in-Ok-time_and_work.ensures.time in
    let worked = c.in-Ok-time_and_work.ensures.work in
    let differs =
    c.first_difference.ensures
    ∙ (λ i. first_difference k (one i) (record { verdict = other i; time = taken i; work = worked i }))
    ∙ ap (λ (b : ℕ). first_difference k (verdict_on p n input) (run_on q b input)) bound in
    let ended = c.ending.ensures ∙ ap (λ (v : Verdict). ending_of v) other ∙ ap (λ (b : ℕ). ending_of (verdict_on q b input)) bound in
    let timed = taken ∙ ap (λ (b : ℕ). time (run_steps q input b)) bound in
    let all = worked ∙ ap (λ (b : ℕ). work (run_steps q input b)) bound in
    λ i. record { difference = differs i; ending = ended i; time = timed i; work = all i }
