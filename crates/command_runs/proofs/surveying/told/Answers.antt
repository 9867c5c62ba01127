use Rattle.std.proofs.Common.{◌≡◌, ◌∙◌, ℤ, List, IfSome, subst, sym}
use Rattle.write_rules.specs.Verdict.{Ended}
use Rattle.pram_meaning.specs.Outcome.{IsOutcome}
use Rattle.costs.specs.Cost.{time}
use Rattle.costs.specs.Steps.{run_steps}
use Rattle.all_inputs.specs.Overall.{IsInScope, MayEndBehind}
use Rattle.command_runs.proofs.surveying.told.Goals as goal

-- each input of the scope is the one that was run
pub returns-clause-told : goal.returns-clause-told
returns-clause-told c =
    let p = c.args.program.now in
    let n = c.args.bound in
    let run = c.deref.result.now in
    let overall = c.in_ok-overall.overall in
    let single : (other : List ℤ) → IsInScope c.args.scope other → other ≡ c.in-Some.input.items =
    subst (λ r. IfSome r (λ input. (other : List ℤ) → IsInScope c.args.scope other → other ≡ input.items)) c.in-Some.is
    c.in_ok-input.ensures.single in
    let same : (input : List ℤ) → IsInScope c.args.scope input → input ≡ run =
    λ input here. single input here ∙ sym c.deref.ensures.value in
    record {
      all = record {
        outcomes = λ input verdict here is.
            (c.in_ok-overall.ensures.just verdict (subst (λ (zs : List ℤ). IsOutcome p zs n verdict) (same input here) is)).1;
        times = λ input output memory here is.
            subst (λ (zs : List ℤ). MayEndBehind overall (time (run_steps p zs n))) (sym (same input here))
            (c.in_ok-overall.ensures.time output memory
            (subst (λ (zs : List ℤ). IsOutcome p zs n (Ended output memory)) (same input here) is));
      };
      one = λ one input verdict here is.
          (c.in_ok-overall.ensures.just verdict (subst (λ (zs : List ℤ). IsOutcome p zs n verdict) (same input here) is)).0;
    }
