use Rattle.std.proofs.Common.{◌∷◌, []}
use Rattle.json_texts.proofs.Json.{adds_then}
use Rattle.write_rules.specs.Verdict.{verdict_of}
use Rattle.json_texts.specs.TraceFacts.{exchanges_from, way_facts}
use Rattle.json_texts.proofs.trace.json_trace.Goals as goal

pub returns : goal.returns
returns c =
    let way = way_facts c.args.whole c.args.layout.now (verdict_of c.args.outcome.now) c.args.cost ∷ [] in
    record {
      json = adds_then (exchanges_from c.args.lines.now 1 c.args.counts.now) way [] _ _ c.in_ok-text.ensures.json
          c.in_ok-push_way.ensures.json;
    }
