use Rattle.std.proofs.lemmas.Result.{on_ok_weaker}
use Rattle.json_texts.proofs.Small.{put_then}
use Rattle.json_texts.specs.Shown.{shown}
use Rattle.scopes.specs.Found.{found_is}
use Rattle.json_texts.specs.ExplorationFacts.{behind_fields, count_fields}
use Rattle.json_texts.proofs.exploration.put_findings.Goals as goal

pub returns : goal.returns
returns c =
    let f = found_is c.args.findings.now in
    on_ok_weaker c.put_behind.result (λ put.
    put_then (count_fields c.args.layout.now f) (behind_fields c.args.specification.now f) (shown c.args.object.now)
    (shown c.put_counts.new.object) (shown c.put_behind.new.object) c.in_ok-put_counts.ensures put)
    c.put_behind.ensures
