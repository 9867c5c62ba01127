use Rattle.std.proofs.lemmas.Result.{on_ok_weaker}
use Rattle.std.specs.Prelude.{codes}
use Rattle.json_texts.proofs.Small.{put_then}
use Rattle.json_texts.specs.Shown.{shown}
use Rattle.json_texts.specs.ExplorationFacts.{asked_fields}
use Rattle.json_texts.proofs.exploration.put_specified.Goals as goal

pub returns : goal.returns
returns c =
    let s = c.args.specification.now in
    let f = c.args.findings.now in
    on_ok_weaker c.put_asked-2.result (λ put.
    put_then (asked_fields (codes "counting") s.precondition f.counting) (asked_fields (codes "failed") s.postcondition f.failed)
    (shown c.args.object.now) (shown c.put_asked.new.object) (shown c.put_asked-2.new.object) c.in_ok-put_asked.ensures put)
    c.put_asked-2.ensures
