use Rattle.std.proofs.lemmas.Result.{on_ok_weaker}
use Rattle.std.specs.Prelude.{codes}
use Rattle.json_texts.proofs.Small.{put_then}
use Rattle.json_texts.specs.Shown.{shown}
use Rattle.scopes.specs.Found.{found_is}
use Rattle.json_texts.specs.ExplorationFacts.{input_fields}
use Rattle.json_texts.proofs.exploration.put_firsts.Goals as goal

pub returns : goal.returns
returns c =
    let f = found_is c.args.findings.now in
    on_ok_weaker c.put_input-2.result (λ put.
    put_then (input_fields (codes "goes_on_at") f.goes_on_at) (input_fields (codes "fails_at") f.fails_at) (shown c.args.object.now)
    (shown c.put_input.new.object) (shown c.put_input-2.new.object) c.in_ok-put_input.ensures put)
    c.put_input-2.ensures
