use Rattle.std.proofs.Common.{◌≡◌, Bool, IfOk, subst}
use Rattle.pram_meaning.proofs.OneOutcome.{outcome_is_computed}
use Rattle.write_rules.specs.Verdict.{Verdict, verdict_of}
use Rattle.scopes.specs.Wrong.{is_wrong}
use Rattle.scopes.proofs.going_wrong.comes_to.Goals as goal

pub returns : goal.returns
returns c =
    let q = c.args.postcondition.now in
    let p = c.args.program.now in
    let n = c.args.bound in
    let input = c.args.input.now in
    let wrong = c.args.wrong in
    let v = verdict_of c.in_ok-outcome.outcome in
    subst (λ (u : Verdict). IfOk c.is_wrong.result (λ (yes : Bool). yes ≡ is_wrong wrong q p n input u))
    ((outcome_is_computed p input n v).0 c.in_ok-outcome.ensures.outcome) c.is_wrong.ensures
