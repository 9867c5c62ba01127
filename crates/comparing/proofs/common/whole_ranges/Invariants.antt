use Rattle.std.proofs.Common.{◌≡◌, map, take}
use Rattle.comparing.specs.Common.{range_or_none}
use Rattle.scopes.specs.Handed.{placed}
use Rattle.comparing.proofs.common.whole_ranges.Given as goal

abbrev pub invariant-loop-i : goal.invariant-loop-i
invariant-loop-i l = l.ranges.items ≡ map (range_or_none l.fn.second) (take l.i (placed 0 l.fn.first))
