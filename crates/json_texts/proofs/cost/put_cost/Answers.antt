use Rattle.std.proofs.Common.{◌++◌}
use Rattle.std.proofs.lemmas.Result.{on_ok_weaker}
use Rattle.json_texts.proofs.Small.{put_then}
use Rattle.json_texts.specs.Shown.{shown}
use Rattle.write_rules.specs.Verdict.{verdict_of}
use Rattle.json_texts.specs.CostFacts.{bound_fields, line_fields, round_fields, work_fields}
use Rattle.json_texts.specs.OutcomeFacts.{outcome_fields}
use Rattle.json_texts.proofs.cost.put_cost.Goals as goal

pub returns : goal.returns
returns c =
    let v = verdict_of c.args.outcome.now in
    let cost = c.args.cost.now in
    let bound = bound_fields v cost in
    let rounds = round_fields cost c.args.schedule in
    let lines = line_fields cost c.args.lines in
    let outcome = outcome_fields c.args.layout.now v in
    let before = shown c.args.object.now in
    let costed = shown c.put_work.new.object in
    let bounded = shown c.put_bound.new.object in
    let counted = shown c.put_rounds.new.object in
    let lined = shown c.put_lines.new.object in
    let all = shown c.put_outcome.new.object in
    on_ok_weaker c.put_outcome.result (λ put.
    put_then (work_fields cost) (bound ++ (rounds ++ (lines ++ outcome))) before costed all c.in_ok-put_work.ensures
    (put_then bound (rounds ++ (lines ++ outcome)) costed bounded all c.in_ok-put_bound.ensures
    (put_then rounds (lines ++ outcome) bounded counted all c.in_ok-put_rounds.ensures
    (put_then lines outcome counted lined all c.in_ok-put_lines.ensures put)))) c.put_outcome.ensures
