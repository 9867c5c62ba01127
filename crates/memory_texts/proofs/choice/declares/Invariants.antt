use Rattle.std.proofs.Common.{◌≡◌, drop}
use Rattle.memory_texts.specs.Chosen.{declares}
use Rattle.memory_texts.proofs.choice.declares.Given as goal

abbrev pub invariant-loop-i : goal.invariant-loop-i
invariant-loop-i l = declares (drop l.i l.layout) l.name ≡ declares l.layout l.name
