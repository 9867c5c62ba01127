use Rattle.std.proofs.Common.{◌≡◌, ◌++◌, drop, map}
use Rattle.std.specs.List.{flat_map}
use Rattle.serde_json.specs.View.{view}
use Rattle.pages.specs.Opening.{variables_of}
use Rattle.pages.proofs.opening.variables_facts.Given as goal

abbrev pub invariant-loop-d : goal.invariant-loop-d
invariant-loop-d l = map view l.list.items ++ flat_map variables_of (drop l.d-index l.declarations) ≡ flat_map variables_of l.declarations
