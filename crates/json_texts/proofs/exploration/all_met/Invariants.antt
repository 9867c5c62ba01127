use Rattle.std.proofs.Common.{◌≡◌, map, take}
use Rattle.serde_json.specs.View.{view}
use Rattle.scopes.specs.Found.{met_is}
use Rattle.json_texts.specs.ExplorationFacts.{met_facts}
use Rattle.json_texts.proofs.exploration.all_met.Given as goal

abbrev pub invariant-loop-found : goal.invariant-loop-found
invariant-loop-found l = map view l.list.items ≡ map (met_facts l.layout) (map met_is (take l.found-index l.faults))
