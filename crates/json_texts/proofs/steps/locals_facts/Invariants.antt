use Rattle.std.proofs.Common.{◌≡◌, map, take}
use Rattle.serde_json.specs.View.{view}
use Rattle.json_texts.specs.StepFacts.{local_facts}
use Rattle.json_texts.proofs.steps.locals_facts.Given as goal

abbrev pub invariant-loop-local : goal.invariant-loop-local
invariant-loop-local l = map view l.list.items ≡ map (local_facts l.tree l.at) (take l.local-index l.locals)
