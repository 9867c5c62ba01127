use Rattle.std.proofs.lemmas.Result.{on_ok_weaker}
use Rattle.std.specs.Prelude.{codes}
use Rattle.json_texts.proofs.Small.{put_then}
use Rattle.json_texts.specs.Shown.{shown}
use Rattle.json_texts.specs.ExplorationFacts.{asked_fields, cells_fields}
use Rattle.json_texts.proofs.pair.put_head.Goals as goal

pub returns : goal.returns
returns c =
    on_ok_weaker c.put_cells.result (λ put.
    put_then (asked_fields (codes "counting") c.args.precondition.now c.args.comparison.now.counting) (cells_fields c.args.cells)
    (shown c.args.object.now) (shown c.put_asked.new.object) (shown c.put_cells.new.object) c.in_ok-put_asked.ensures put)
    c.put_cells.ensures
