use Rattle.pram_meaning.specs.Store.{seen}
use Rattle.abstract_runs.specs.Effects.{IsGivenBy}
use Rattle.abstract_runs.proofs.Leading.{leads_evaluated, told_all}
use Rattle.abstract_runs.proofs.survey.Survey.try_assign.Goals as goal

pub returns-clause-leads : goal.returns-clause-leads
returns-clause-leads c = λ m h.
    leads_evaluated (IsGivenBy c.in_ok-effect.effect) _ _ _ _ _ _ _ _ m
    (c.if-not-begin.ensures.leads m h.known_as) c.in_ok-note.ensures.kept
    (λ s k. c.in_ok-effect.ensures.tried (seen c.args.self.now.program.now s) (c.outlook_of-seen.ensures s k))
    (told_all _ _ _ _ c.within.ensures c.in_ok-note.ensures.noted) h.team
