use Rattle.std.proofs.Common.{◌≡◌, Some, drop}
use Rattle.std.specs.List.{find}
use Rattle.std.specs.Prelude.{slice_get}
use Rattle.comparing.specs.Common.{same_entry}
use Rattle.scopes.specs.Handed.{Placed, placed}
use Rattle.comparing.proofs.common.range_with.Given as goal

-- the first of those that are left is the first of all
abbrev pub invariant-loop-j : goal.invariant-loop-j
invariant-loop-j l = (p : Placed) → slice_get (placed 0 l.fn.first) l.fn.i ≡ Some p →
    find (λ q. same_entry p.entry q.entry) (drop l.j (placed 0 l.fn.second)) ≡ find (λ q. same_entry p.entry q.entry) (placed 0 l.fn.second)
