use Rattle.std.proofs.Common.{◌≡◌, map, take}
use Rattle.serde_json.specs.View.{view}
use Rattle.json_texts.specs.ActFacts.{value_fact}
use Rattle.json_texts.proofs.acts.values_value.Given as goal

abbrev pub invariant-loop-reading : goal.invariant-loop-reading
invariant-loop-reading l = map view l.list.items ≡ map value_fact (take l.reading-index l.readings)
