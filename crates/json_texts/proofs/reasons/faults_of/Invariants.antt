use Rattle.std.proofs.Common.{[], map}
use Rattle.serde_json.specs.View.{view}
use Rattle.json_texts.specs.OverallFacts.{line_facts}
use Rattle.json_texts.proofs.InTurn.{InTurn}
use Rattle.json_texts.proofs.reasons.faults_of.Given as goal

abbrev pub invariant-loop-entry : goal.invariant-loop-entry
invariant-loop-entry l = InTurn (line_facts l.layout) l.lines l.entry-index [] (map view l.list.items)
