use Rattle.std.proofs.Common.{take}
use Rattle.all_inputs.specs.Overall.{AreJust}
use Rattle.abstract_runs.proofs.single.points.Given as goal

abbrev pub invariant-loop-k : goal.invariant-loop-k
invariant-loop-k l = AreJust l.cells.items (take l.k l.values)
