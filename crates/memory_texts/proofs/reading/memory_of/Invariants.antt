use Rattle.std.proofs.Common.{◌-◌, length}
use Rattle.memory_texts.proofs.Lines.{IsLeftTo}
use Rattle.memory_texts.proofs.reading.memory_of.Given as goal

abbrev pub invariant-loop-at : goal.invariant-loop-at
invariant-loop-at l = IsLeftTo l.layout l.text l.memory.items l.at

abbrev pub decreases-loop-at : goal.decreases-loop-at
decreases-loop-at l = length l.text - l.at
