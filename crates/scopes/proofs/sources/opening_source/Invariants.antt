use Rattle.std.proofs.Common.{◌≡◌, drop, map}
use Rattle.std.specs.List.{find}
use Rattle.pram_model.specs.Layout.{total_size}
use Rattle.scopes.specs.Handed.{is_named, opened, placed}
use Rattle.scopes.proofs.sources.opening_source.Given as goal

-- the first of those that are left is the first of all
abbrev pub invariant-loop-i : goal.invariant-loop-i
invariant-loop-i l =
    find (is_named l.fn.name) (drop l.i (placed (total_size l.fn.layout) (map opened l.fn.layout)))
    ≡ find (is_named l.fn.name) (placed (total_size l.fn.layout) (map opened l.fn.layout))
