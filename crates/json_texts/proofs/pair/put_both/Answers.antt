use Rattle.std.proofs.lemmas.Result.{on_ok_weaker}
use Rattle.std.specs.Prelude.{codes}
use Rattle.json_texts.proofs.Small.{put_then}
use Rattle.json_texts.specs.Shown.{shown}
use Rattle.json_texts.specs.PairFacts.{value_fields}
use Rattle.json_texts.proofs.pair.put_both.Goals as goal

pub returns : goal.returns
returns c =
    on_ok_weaker c.put_one-2.result (λ put.
    put_then (value_fields (codes "first") c.args.first) (value_fields (codes "second") c.args.second)
    (shown c.args.object.now) (shown c.put_one.new.object) (shown c.put_one-2.new.object) c.in_ok-put_one.ensures put)
    c.put_one-2.ensures
