use Rattle.std.proofs.Common.{Err, Ok, refl}
use Rattle.command_facts.proofs.Steps.{ends_by, never_long, outcome_within}
use Rattle.command_json.proofs.StepsTold.{lines_cut, streamed_by}
use Rattle.command_json.proofs.stepping.stream_lines.Goals as goal

pub returns-in-Ok-clause-outcome : goal.returns-in-Ok-clause-outcome
returns-in-Ok-clause-outcome g c =
    outcome_within c.args.steps.now c.in-Ok.ending.bound c.in-Ok.ending.outcome _ c.deref.ensures.value c.in-Ok.ensures.outcome

pub returns-in-Ok-clause-ends : goal.returns-in-Ok-clause-ends
returns-in-Ok-clause-ends g c = ends_by c.args.steps.now _ c.in-Ok.ending.bound c.until.ensures.time c.in-Ok.ensures.ends

pub returns-in-Ok-clause-lines : goal.returns-in-Ok-clause-lines
returns-in-Ok-clause-lines g c =
    streamed_by c.args.steps.now (g.O.Out.state c.args.out.now) (g.O.Out.state c.stream_json.new.out) _ _ (Ok c.in-Ok.ending)
    (Ok c.in-Ok.ending) c.text-source.ensures.value c.deref.ensures.value refl c.in-Ok.ensures.written

pub returns-in-Err-clause-cut : goal.returns-in-Err-clause-cut
returns-in-Err-clause-cut g c =
    let s = c.args.steps.now in
    let f = c.in-Err.failure in
    lines_cut s _ _ f c.from.result c.from.ensures
    (streamed_by s _ _ _ _ (Err f) (Err f) c.text-source.ensures.value c.deref.ensures.value refl c.in-Err.ensures.written)
    (never_long c.args.steps.now _ c.deref.ensures.value _ f refl c.in-Err.ensures.too_long)
