use Rattle.std.proofs.Common.{◌-◌, length}
use Rattle.sized_texts.specs.SizeRanges.{Goes, IsProgression}
use Rattle.sized_texts.proofs.Sweeps.{IsReadTo}
use Rattle.sized_texts.proofs.progression.progression.Given as goal

abbrev pub invariant-loop-at : goal.invariant-loop-at
invariant-loop-at l = IsReadTo (IsProgression l.range) (Goes l.range.growth l.range.last l.at) l.sizes.items

abbrev pub decreases-loop-at : goal.decreases-loop-at
decreases-loop-at l = 1000 - length l.sizes.items
