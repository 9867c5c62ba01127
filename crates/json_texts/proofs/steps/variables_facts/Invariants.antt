use Rattle.std.proofs.Common.{◌≡◌, map, take}
use Rattle.serde_json.specs.View.{view}
use Rattle.json_texts.specs.StepFacts.{variable_facts}
use Rattle.json_texts.proofs.steps.variables_facts.Given as goal

abbrev pub invariant-loop-change : goal.invariant-loop-change
invariant-loop-change l = map view l.list.items ≡ map (variable_facts l.tree) (take l.change-index l.changes)
