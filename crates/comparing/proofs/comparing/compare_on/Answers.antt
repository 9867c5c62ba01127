use Rattle.std.proofs.Common.{◌∙◌, ap}
use Rattle.comparing.specs.declared.trial.Trial.{Trial}
use Rattle.comparing.specs.Found.{added, found_is}
use Rattle.comparing.proofs.comparing.compare_on.Goals as goal

pub returns-in-Ok-clause-found : goal.returns-in-Ok-clause-found
returns-in-Ok-clause-found c =
    c.in-Ok.ensures
    ∙ ap (λ (t : Trial). added c.args.most t c.args.input.now (found_is c.args.comparison.now))
    c.in_ok-trial.ensures.trial
