use Rattle.std.proofs.Common.{◌≡◌, ◌≤ℤ◌, ◌⊎◌, pos, take}
use Rattle.std.specs.List.{All, Contains}
use Rattle.intervals.proofs.widening.mark_above.Given as goal

abbrev pub invariant-loop-mark : goal.invariant-loop-mark
invariant-loop-mark l = (l.value ≤ℤ l.found)
    × (((l.found ≡ pos 9223372036854775807) ⊎ Contains l.marks l.found)
    × All (λ m. l.value ≤ℤ m → l.found ≤ℤ m) (take l.mark-index l.marks))
