use Rattle.std.proofs.Common.{◌≡◌, map, take}
use Rattle.std.specs.List.{filter_map}
use Rattle.comparing.specs.Common.{range_of, shared_with}
use Rattle.scopes.specs.Handed.{placed}
use Rattle.comparing.proofs.common.common_ranges.Given as goal

abbrev pub invariant-loop-i : goal.invariant-loop-i
invariant-loop-i l = l.ranges.items ≡ map range_of (filter_map (shared_with l.fn.second) (take l.i (placed 0 l.fn.first)))
