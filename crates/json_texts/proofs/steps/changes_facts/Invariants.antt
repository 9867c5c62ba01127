use Rattle.std.proofs.Common.{◌≡◌, map, take}
use Rattle.serde_json.specs.View.{view}
use Rattle.json_texts.specs.StepFacts.{change_facts}
use Rattle.json_texts.proofs.steps.changes_facts.Given as goal

abbrev pub invariant-loop-change : goal.invariant-loop-change
invariant-loop-change l = map view l.list.items ≡ map (change_facts l.layout) (take l.change-index l.changes)
