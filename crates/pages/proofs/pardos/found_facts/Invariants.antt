use Rattle.std.proofs.Common.{◌≡◌, map, take}
use Rattle.serde_json.specs.View.{view}
use Rattle.pages.specs.Pardos.{pardo_facts, pardo_is}
use Rattle.pages.proofs.pardos.found_facts.Given as goal

abbrev pub invariant-loop-pardo : goal.invariant-loop-pardo
invariant-loop-pardo l = map view l.list.items ≡ map pardo_facts (map pardo_is (take l.pardo-index l.found))
