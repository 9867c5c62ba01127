use Rattle.std.proofs.Common.{◌∙◌, ap}
use Rattle.pram_meaning.proofs.OneOutcome.{outcome_is_computed}
use Rattle.write_rules.specs.Verdict.{verdict_of}
use Rattle.scopes.specs.Runs.{fault_of}
use Rattle.scopes.proofs.going_wrong.fault_on.Goals as goal

pub returns : goal.returns
returns c =
    c.fault_of.ensures
    ∙ ap fault_of ((outcome_is_computed c.args.program.now c.args.input.now c.args.bound (verdict_of c.in_ok-outcome.outcome)).0
    c.in_ok-outcome.ensures.outcome)
