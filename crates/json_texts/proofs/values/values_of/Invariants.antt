use Rattle.std.proofs.Common.{◌≡◌, map, take}
use Rattle.serde_json.specs.View.{view}
use Rattle.json_texts.specs.Facts.{value}
use Rattle.json_texts.proofs.values.values_of.Given as goal

abbrev pub invariant-loop-value : goal.invariant-loop-value
invariant-loop-value l = map view l.list.items ≡ map value (take l.value-index l.values)
