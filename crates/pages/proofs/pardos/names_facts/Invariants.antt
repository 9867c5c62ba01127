use Rattle.std.proofs.Common.{◌≡◌, map, take}
use Rattle.serde_json.specs.View.{view}
use Rattle.pages.specs.Pardos.{name_fact}
use Rattle.pages.proofs.pardos.names_facts.Given as goal

abbrev pub invariant-loop-x : goal.invariant-loop-x
invariant-loop-x l = map view l.list.items ≡ map name_fact (take l.x-index l.names)
