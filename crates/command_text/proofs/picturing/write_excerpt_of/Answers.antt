use Rattle.std.proofs.Common.{Err, Ok, refl}
use Rattle.command_facts.proofs.Steps.{ends_by, never_long, outcome_within}
use Rattle.command_text.proofs.StepsWritten.{excerpt_by, excerpt_cut}
use Rattle.command_text.proofs.picturing.write_excerpt_of.Goals as goal

pub returns-in-Ok-clause-ends : goal.returns-in-Ok-clause-ends
returns-in-Ok-clause-ends g c = ends_by c.args.steps.now _ c.in-Ok.ending.bound c.until.ensures.time c.in-Ok.ensures.ends

pub returns-in-Ok-clause-outcome : goal.returns-in-Ok-clause-outcome
returns-in-Ok-clause-outcome g c =
    outcome_within c.args.steps.now c.in-Ok.ending.bound c.in-Ok.ending.outcome _ c.deref.ensures.value c.in-Ok.ensures.outcome

pub returns-in-Ok-clause-picture : goal.returns-in-Ok-clause-picture
returns-in-Ok-clause-picture g c =
    excerpt_by c.args.steps.now _ _ _ _ c.until.result (Ok c.in-Ok.ending) c.as_slice-text.ensures.value c.deref.ensures.value c.in-Ok.ensures.written

pub returns-in-Err-clause-cut : goal.returns-in-Err-clause-cut
returns-in-Err-clause-cut g c on =
    let s = c.args.steps.now in
    let f = c.in-Err.failure in
    excerpt_cut on s _ _ _ c.until.ensures.time c.requires.form f c.from.result c.from.ensures
    (excerpt_by s _ _ _ _ c.until.result (Err f) c.as_slice-text.ensures.value c.deref.ensures.value c.in-Err.ensures.written)
    (never_long c.args.steps.now _ c.deref.ensures.value _ f refl c.in-Err.ensures.too_long)
