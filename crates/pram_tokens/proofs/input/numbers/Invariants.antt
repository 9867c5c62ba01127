use Rattle.std.proofs.Common.{◌-◌, length}
use Rattle.pram_tokens.proofs.Inputs.{IsReadTo}
use Rattle.pram_tokens.proofs.input.numbers.Given as goal

abbrev pub invariant-loop-at : goal.invariant-loop-at
invariant-loop-at l = IsReadTo l.text l.found.items l.at

abbrev pub decreases-loop-at : goal.decreases-loop-at
decreases-loop-at l = length l.text - l.at
