use Rattle.superstep_listing.specs.Reading.{AreInstrs, AreRest}
use Rattle.superstep_listing.proofs.Stuck.{lifted, not_empty, stuck_behind, stuck_count, stuck_private, stuck_rest, stuck_uniform}
use Rattle.superstep_listing.proofs.instrs_read.rest_of.Goals as goal

pub returns-in_default-clause-wrong : goal.returns-in_default-clause-wrong
returns-in_default-clause-wrong c = stuck_uniform c.args.text.now c.in_default.ensures.value

pub returns-in_default-next_field-clause-wrong : goal.returns-in_default-next_field-clause-wrong
returns-in_default-next_field-clause-wrong c =
    let u = c.in-Some.ensures.value in
    stuck_private c.in-Some.uniform c.args.text.now c.in-Some.behind.now u.1 u.2 c.in_default-next_field.ensures.value

pub returns-in_default-next_field-2-clause-wrong : goal.returns-in_default-next_field-2-clause-wrong
returns-in_default-next_field-2-clause-wrong c =
    let u = c.in-Some.ensures.value in
    let v = c.in-Some-next_field.ensures.value in
    stuck_count c.in-Some.uniform c.in-Some-next_field.private c.args.text.now c.in-Some.behind.now c.in-Some-next_field.body.now u.1 v.1
    u.2 v.2 c.in_default-next_field-2.ensures.value

pub returns-in-Err-clause-wrong : goal.returns-in-Err-clause-wrong
returns-in-Err-clause-wrong c =
    let u = c.in-Some.ensures.value in
    let v = c.in-Some-next_field.ensures.value in
    let n = c.in-Some-next_field-2.ensures.value in
    lifted (AreInstrs c.in-Some-next_field-2.count) AreRest c.in-Some-next_field-2.lines.now c.args.text.now
    (λ left s. stuck_rest c.in-Some.uniform c.in-Some-next_field.private c.in-Some-next_field-2.count c.args.text.now c.in-Some.behind.now
    c.in-Some-next_field.body.now c.in-Some-next_field-2.lines.now left u.1 v.1 n.1 u.2 v.2 n.2 s)
    c.in-Err.fault c.in-Err.ensures.wrong

pub returns-then-not-is_empty-clause-wrong : goal.returns-then-not-is_empty-clause-wrong
returns-then-not-is_empty-clause-wrong c =
    let u = c.in-Some.ensures.value in
    let v = c.in-Some-next_field.ensures.value in
    let n = c.in-Some-next_field-2.ensures.value in
    let f = c.in-Ok.ensures in
    stuck_rest c.in-Some.uniform c.in-Some-next_field.private c.in-Some-next_field-2.count c.args.text.now c.in-Some.behind.now
    c.in-Some-next_field.body.now c.in-Some-next_field-2.lines.now _ u.1 v.1 n.1 u.2 v.2 n.2
    (stuck_behind c.in-Some-next_field-2.count c.in-Ok.found.0.items c.in-Some-next_field-2.lines.now c.in-Ok.found.1.now f.counted f.fit
    f.whole
    (not_empty c.is_empty.result c.in-Ok.found.1.now c.is_empty.ensures c.if-not-is_empty.true))
