use Rattle.std.proofs.Common.{◌≡◌, map, take}
use Rattle.serde_json.specs.View.{view}
use Rattle.journal.specs.Entries.{act_is}
use Rattle.json_texts.specs.ActFacts.{act_facts}
use Rattle.json_texts.proofs.acts.acts_facts.Given as goal

abbrev pub invariant-loop-act : goal.invariant-loop-act
invariant-loop-act l = map view l.list.items ≡ map (act_facts l.layout) (map act_is (take l.act-index l.acts))
