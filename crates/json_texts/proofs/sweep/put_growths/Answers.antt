use Rattle.std.proofs.lemmas.Result.{on_ok_weaker}
use Rattle.std.specs.Prelude.{codes}
use Rattle.json_texts.proofs.Small.{put_then}
use Rattle.json_texts.specs.Shown.{shown}
use Rattle.json_texts.specs.SweepFacts.{growth_fields}
use Rattle.json_texts.proofs.sweep.put_growths.Goals as goal

pub returns : goal.returns
returns c =
    let time = growth_fields (codes "time") c.args.name.now c.args.growths.now.time in
    let work = growth_fields (codes "work") c.args.name.now c.args.growths.now.work in
    on_ok_weaker c.put_growth-2.result (λ put.
    put_then time work (shown c.args.object.now) (shown c.put_growth.new.object) (shown c.put_growth-2.new.object)
    c.in_ok-put_growth.ensures put)
    c.put_growth-2.ensures
