use Rattle.std.proofs.Common.{◌++◌}
use Rattle.std.proofs.lemmas.Result.{on_ok_weaker}
use Rattle.json_texts.proofs.Small.{put_then}
use Rattle.json_texts.specs.Shown.{shown}
use Rattle.scopes.specs.Found.{found_is}
use Rattle.json_texts.specs.ExplorationFacts.{behind_fields, cells_fields, count_fields}
use Rattle.json_texts.proofs.exploration.put_told.Goals as goal

pub returns : goal.returns
returns c =
    let f = found_is c.args.findings.now in
    on_ok_weaker c.put_findings.result (λ put.
    put_then (cells_fields c.args.cells) (count_fields c.args.layout.now f ++ behind_fields c.args.specification.now f)
    (shown c.args.object.now) (shown c.put_cells.new.object) (shown c.put_findings.new.object) c.in_ok-put_cells.ensures put)
    c.put_findings.ensures
