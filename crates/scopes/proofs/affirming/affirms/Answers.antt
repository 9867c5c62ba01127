use Rattle.std.proofs.Common.{◌∙◌, ap}
use Rattle.pram_meaning.proofs.OneOutcome.{outcome_is_computed}
use Rattle.write_rules.specs.Verdict.{verdict_of}
use Rattle.scopes.specs.Specified.{is_yes}
use Rattle.scopes.proofs.affirming.affirms.Goals as goal

pub returns-clause-affirms : goal.returns-clause-affirms
returns-clause-affirms c =
    c.is_yes.ensures
    ∙ ap is_yes ((outcome_is_computed c.args.program.now c.args.input.now c.args.bound (verdict_of c.in_ok-outcome.outcome)).0
    c.in_ok-outcome.ensures.outcome)
