use Rattle.std.proofs.Common.{Err, Ok, refl}
use Rattle.command_facts.proofs.Steps.{ends_by, never_long, outcome_within}
use Rattle.command_text.proofs.StepsWritten.{flow_by, flow_cut}
use Rattle.command_text.proofs.flowing.write_flow_of.Goals as goal

pub returns-in-Ok-clause-ends : goal.returns-in-Ok-clause-ends
returns-in-Ok-clause-ends g c = ends_by c.args.steps.now _ c.in-Ok.ending.bound c.until.ensures.time c.in-Ok.ensures.ends

pub returns-in-Ok-clause-outcome : goal.returns-in-Ok-clause-outcome
returns-in-Ok-clause-outcome g c =
    outcome_within c.args.steps.now c.in-Ok.ending.bound c.in-Ok.ending.outcome _ c.deref.ensures.value c.in-Ok.ensures.outcome

pub returns-in-Ok-clause-flow : goal.returns-in-Ok-clause-flow
returns-in-Ok-clause-flow g c =
    flow_by c.args.steps.now _ _ _ _ c.until.result _ (Ok c.in-Ok.ending) c.text-text.ensures.value c.deref.ensures.value c.requires.only c.in-Ok.ensures.written

pub returns-in-Err-clause-cut : goal.returns-in-Err-clause-cut
returns-in-Err-clause-cut g c on =
    let s = c.args.steps.now in
    let f = c.in-Err.failure in
    flow_cut on s _ _ _ c.until.ensures.time c.requires.form f c.from.result c.from.ensures
    (flow_by s _ _ _ _ c.until.result _ (Err f) c.text-text.ensures.value c.deref.ensures.value c.requires.only c.in-Err.ensures.written)
    (never_long c.args.steps.now _ c.deref.ensures.value _ f refl c.in-Err.ensures.too_long)
