use Rattle.std.proofs.Common.{◌≡◌, ◌∙◌, Bool, ℕ, ap, sym}
use Rattle.pram_meaning.proofs.OneOutcome.{outcome_is_computed}
use Rattle.costs.specs.Cost.{time, work}
use Rattle.costs.specs.Steps.{run_steps}
use Rattle.write_rules.specs.Verdict.{Verdict, verdict_of}
use Rattle.scopes.specs.Found.{added, found_is}
use Rattle.scopes.specs.Runs.{verdict_on}
use Rattle.scopes.specs.Specified.{is_failing}
use Rattle.scopes.proofs.exploring.run_on.Goals as goal

pub returns : goal.returns
returns c =
    let q = c.args.specification.now.postcondition in
    let p = c.args.program.now in
    let n = c.args.bound in
    let input = c.args.input.now in
    let f = found_is c.args.findings.now in
    let v = verdict_of c.in_ok-outcome.outcome in
    let t = time (run_steps p input n) in
    let w = work (run_steps p input n) in
    let fails = c.in_ok-fails.fails in
    let is : verdict_on p n input ≡ v = sym ((outcome_is_computed p input n v).0 c.in_ok-outcome.ensures.outcome) in
    record {
      found = c.in_ok-add.ensures
          ∙ ap (λ (k : ℕ). added v k c.in_ok-outcome.counted.work fails input f) (c.from-time.ensures ∙ c.in_ok-outcome.ensures.time)
          ∙ ap (λ (k : ℕ). added v t k fails input f) c.in_ok-outcome.ensures.work
          ∙ ap (λ (b : Bool). added v t w b input f) c.in_ok-fails.ensures
          ∙ ap (λ (u : Verdict). added u t w (is_failing q p n input u) input f) (sym is);
    }
