use Rattle.std.proofs.Common.{[]}
use Rattle.pram_meaning.specs.Store.{seen}
use Rattle.abstract_runs.specs.Covers.{IsAmong}
use Rattle.abstract_runs.proofs.Leading.{leads_found, told_all}
use Rattle.abstract_runs.proofs.Trails.{nothing_yet}
use Rattle.abstract_runs.proofs.survey.Survey.evaluate.Goals as goal

pub returns-clause-leads : goal.returns-clause-leads
returns-clause-leads c = λ m h.
    leads_found c.args.self.now.program.now c.args.e.now (IsAmong c.in_ok-value.value) _ _ _ _ _ _ _ m
    (c.if-not-begin.ensures.leads m h.known_as) c.in_ok-note.ensures.kept
    (λ s k. c.in_ok-value.ensures.tried (seen c.args.self.now.program.now s) [] (c.outlook_of-seen.ensures s k)
    (nothing_yet c.new-trail.result.items c.new-trail.ensures.items)) (told_all _ _ _ _ c.within.ensures c.in_ok-note.ensures.noted) h.team
