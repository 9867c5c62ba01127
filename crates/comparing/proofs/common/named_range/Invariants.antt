use Rattle.std.proofs.Common.{◌≡◌, drop}
use Rattle.std.specs.List.{filter_map, find}
use Rattle.std.specs.Option.{option_map}
use Rattle.comparing.specs.Common.{common_named, is_named, range_of, shared_with}
use Rattle.scopes.specs.Handed.{placed}
use Rattle.comparing.proofs.common.named_range.Given as goal

abbrev pub invariant-loop-i : goal.invariant-loop-i
invariant-loop-i l =
    option_map range_of (find (is_named l.fn.name) (filter_map (shared_with l.fn.second) (drop l.i (placed 0 l.fn.first))))
    ≡ common_named l.fn.first l.fn.second l.fn.name
