use Rattle.std.proofs.Common.{◌≡◌, ◌-◌}
use Rattle.std.specs.Prelude.{slice_get}
use Rattle.comparing.specs.Unequal.{unequals}
use Rattle.comparing.proofs.Unequals.{unequals_from}
use Rattle.comparing.proofs.unequal.first_unequal.Given as goal

-- the first of those that are left is the first of all
abbrev pub invariant-loop-place : goal.invariant-loop-place
invariant-loop-place l =
    slice_get (unequals_from l.fn.first l.fn.first_start l.fn.second l.fn.second_start l.place (l.fn.count - l.place)) 0
    ≡ slice_get (unequals l.fn.first l.fn.first_start l.fn.second l.fn.second_start l.fn.count) 0
