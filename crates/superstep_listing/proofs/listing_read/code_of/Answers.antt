use Rattle.superstep_listing.specs.Reading.{AreCode, AreRest}
use Rattle.superstep_listing.proofs.Stuck.{lifted}
use Rattle.superstep_listing.proofs.Whole.{stuck_code, stuck_procs, stuck_rule, stuck_version}
use Rattle.superstep_listing.proofs.listing_read.code_of.Goals as goal

pub returns-in_default-clause-wrong : goal.returns-in_default-clause-wrong
returns-in_default-clause-wrong c = stuck_version c.args.text.now c.in_default.ensures.value

pub returns-in_default-next_rule-clause-wrong : goal.returns-in_default-next_rule-clause-wrong
returns-in_default-next_rule-clause-wrong c =
    stuck_rule c.args.text.now c.in-Some.behind.now c.in-Some.ensures.value c.in_default-next_rule.ensures.value

pub returns-in_default-next_field-clause-wrong : goal.returns-in_default-next_field-clause-wrong
returns-in_default-next_field-clause-wrong c =
    stuck_procs c.in-Some-next_rule.rule c.args.text.now c.in-Some.behind.now c.in-Some-next_rule.body.now c.in-Some.ensures.value
    c.in-Some-next_rule.ensures.value c.in_default-next_field.ensures.value

pub returns-in-Err-clause-wrong : goal.returns-in-Err-clause-wrong
returns-in-Err-clause-wrong c =
    let m = c.in-Some-next_field.ensures.value in
    let l = c.in_ok-layout.ensures in
    let es = c.in_ok-layout.layout in
    let lines = c.in_ok-layout.lines.now in
    lifted AreRest AreCode lines c.args.text.now
    (λ left s. stuck_code c.in-Some-next_rule.rule c.in-Some-next_field.procs es m.0 m.1 l.layout c.args.text.now c.in-Some.behind.now
    c.in-Some-next_rule.body.now c.in-Some-next_field.entries.now lines left
    c.in-Some.ensures.value c.in-Some-next_rule.ensures.value m.2 l.whole l.most s)
    c.in-Err.fault c.in-Err.ensures.wrong
