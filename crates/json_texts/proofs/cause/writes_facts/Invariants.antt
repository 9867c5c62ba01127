use Rattle.std.proofs.Common.{◌≡◌, map, take}
use Rattle.serde_json.specs.View.{view}
use Rattle.json_texts.specs.CauseFacts.{write_facts}
use Rattle.json_texts.proofs.cause.writes_facts.Given as goal

abbrev pub invariant-loop-write : goal.invariant-loop-write
invariant-loop-write l = map view l.list.items ≡ map write_facts (take l.write-index l.writes)
