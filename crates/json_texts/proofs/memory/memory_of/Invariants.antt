use Rattle.std.proofs.Common.{◌≡◌, ◌++◌, drop, map}
use Rattle.serde_json.specs.View.{view}
use Rattle.json_texts.proofs.DeclarationFacts.{chosen_memory}
use Rattle.json_texts.proofs.memory.memory_of.Given as goal

abbrev pub invariant-loop-i : goal.invariant-loop-i
invariant-loop-i l = chosen_memory l.choice l.fn.layout l.fn.memory
    ≡ map view l.list.items ++ chosen_memory l.choice (drop l.i l.fn.layout) l.rest
