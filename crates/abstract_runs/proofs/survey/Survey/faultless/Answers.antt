use Rattle.std.proofs.Common.{sym, ◌∙◌}
use Rattle.abstract_runs.proofs.SureKeys.{never_faultless}
use Rattle.abstract_runs.proofs.survey.Survey.faultless.Goals as goal

pub returns-then-is_some : goal.returns-then-is_some
returns-then-is_some c = λ vs xs h. never_faultless c.args.self.now.program.now c.args.rows.items c.args.sure vs xs
    (sym c.is_some.ensures ∙ c.if-is_some.true) c.requires h
