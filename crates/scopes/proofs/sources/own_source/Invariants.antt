use Rattle.std.proofs.Common.{◌≡◌, drop}
use Rattle.std.specs.List.{find}
use Rattle.scopes.specs.Handed.{is_named, placed}
use Rattle.scopes.proofs.sources.own_source.Given as goal

-- the first of those that are left is the first of all
abbrev pub invariant-loop-i : goal.invariant-loop-i
invariant-loop-i l = find (is_named l.fn.name) (drop l.i (placed 0 l.fn.layout)) ≡ find (is_named l.fn.name) (placed 0 l.fn.layout)
