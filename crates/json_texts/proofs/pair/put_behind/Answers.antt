use Rattle.std.proofs.lemmas.Result.{on_ok_weaker}
use Rattle.json_texts.proofs.Small.{put_then}
use Rattle.json_texts.specs.Shown.{shown}
use Rattle.comparing.specs.Found.{found_is}
use Rattle.json_texts.specs.PairFacts.{found_fields, head_fields}
use Rattle.json_texts.proofs.pair.put_behind.Goals as goal

pub returns : goal.returns
returns c =
    let f = found_is c.args.comparison.now in
    on_ok_weaker c.put_found.result (λ put.
    put_then (head_fields c.args.precondition.now c.args.cells f) (found_fields c.args.first.now c.args.second.now f)
    (shown c.args.object.now) (shown c.put_head.new.object) (shown c.put_found.new.object) c.in_ok-put_head.ensures put)
    c.put_found.ensures
