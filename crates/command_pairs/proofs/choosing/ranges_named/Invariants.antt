use Rattle.std.proofs.Common.{◌≡◌, take}
use Rattle.std.specs.List.{filter_map}
use Rattle.command_pairs.specs.Pairs.{range_named}
use Rattle.command_pairs.proofs.choosing.ranges_named.Given as goal

-- there are those of the declarations so far
abbrev pub invariant-loop-i : goal.invariant-loop-i
invariant-loop-i l = l.ranges.items ≡ filter_map (range_named l.fn.only l.fn.first l.fn.second) (take l.i l.fn.first)
