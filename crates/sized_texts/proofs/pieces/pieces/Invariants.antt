use Rattle.std.proofs.Common.{◌-◌, length}
use Rattle.sized_texts.specs.Faults.{shown}
use Rattle.sized_texts.proofs.Turns.{IsExpandedTo}
use Rattle.sized_texts.proofs.pieces.pieces.Given as goal

abbrev pub invariant-loop-at : goal.invariant-loop-at
invariant-loop-at l = IsExpandedTo l.sizes l.text (shown l.to) l.comment l.at

abbrev pub decreases-loop-at : goal.decreases-loop-at
decreases-loop-at l = length l.text - l.at
