use Rattle.std.proofs.Common.{◌≡◌, map, take}
use Rattle.serde_json.specs.View.{view}
use Rattle.json_texts.specs.CostFacts.{line_facts}
use Rattle.json_texts.proofs.cost.lines_facts.Given as goal

abbrev pub invariant-loop-cost : goal.invariant-loop-cost
invariant-loop-cost l = map view l.list.items ≡ map line_facts (take l.cost-index l.costs)
