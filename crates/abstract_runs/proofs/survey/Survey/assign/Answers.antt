use Rattle.abstract_runs.proofs.Begun.{assign_leads}
use Rattle.abstract_runs.proofs.survey.Survey.assign.Goals as goal

pub returns-in-Some-clause-leads : goal.returns-in-Some-clause-leads
returns-in-Some-clause-leads c = λ m h.
    assign_leads c.args.self.now.program.now c.args.self.now.bound c.args.line c.args.target.now c.args.e.now c.in_ok-effect.field-0
    c.in-Some.effect c.args.known.now c.try_assign.new.known c.store.new.known c.try_assign.new.told m h c.in_ok-effect.ensures.origins
    c.in-Some.is (c.in_ok-effect.ensures.leads m h) c.store.ensures.stands
