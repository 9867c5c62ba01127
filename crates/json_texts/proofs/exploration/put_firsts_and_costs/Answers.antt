use Rattle.std.proofs.lemmas.Result.{on_ok_weaker}
use Rattle.json_texts.proofs.Small.{put_then}
use Rattle.json_texts.specs.Shown.{shown}
use Rattle.scopes.specs.Found.{found_is}
use Rattle.json_texts.specs.ExplorationFacts.{cost_fields, first_fields}
use Rattle.json_texts.proofs.exploration.put_firsts_and_costs.Goals as goal

pub returns : goal.returns
returns c =
    let f = found_is c.args.findings.now in
    on_ok_weaker c.put_costs.result (λ put.
    put_then (first_fields f) (cost_fields f) (shown c.args.object.now) (shown c.put_firsts.new.object) (shown c.put_costs.new.object)
    c.in_ok-put_firsts.ensures put)
    c.put_costs.ensures
