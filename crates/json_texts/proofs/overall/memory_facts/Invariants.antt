use Rattle.std.proofs.Common.{map}
use Rattle.serde_json.specs.View.{view}
use Rattle.json_texts.proofs.IntervalFacts.{InMemory}
use Rattle.json_texts.proofs.overall.memory_facts.Given as goal

abbrev pub invariant-loop-i : goal.invariant-loop-i
invariant-loop-i l = InMemory l.layout l.intervals l.i (map view l.list.items)
