use Rattle.std.proofs.Common.{◌≡◌, map, take}
use Rattle.serde_json.specs.View.{view}
use Rattle.json_texts.specs.Facts.{count}
use Rattle.json_texts.proofs.values.counts_of.Given as goal

abbrev pub invariant-loop-count : goal.invariant-loop-count
invariant-loop-count l = map view l.list.items ≡ map count (take l.count-index l.counts)
