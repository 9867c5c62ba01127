use Rattle.std.proofs.lemmas.Result.{on_ok_weaker}
use Rattle.std.specs.Prelude.{codes}
use Rattle.json_texts.proofs.Small.{put_then}
use Rattle.json_texts.specs.Shown.{shown}
use Rattle.json_texts.specs.ExplorationFacts.{span_fields}
use Rattle.json_texts.proofs.exploration.put_costs.Goals as goal

pub returns : goal.returns
returns c =
    on_ok_weaker c.put_span-2.result (λ put.
    put_then (span_fields (codes "time") c.args.findings.now.time) (span_fields (codes "work") c.args.findings.now.work)
    (shown c.args.object.now) (shown c.put_span.new.object) (shown c.put_span-2.new.object) c.in_ok-put_span.ensures put)
    c.put_span-2.ensures
