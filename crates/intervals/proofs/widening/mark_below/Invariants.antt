use Rattle.std.proofs.Common.{◌≡◌, ◌≤ℤ◌, ◌⊎◌, negsuc, take}
use Rattle.std.specs.List.{All, Contains}
use Rattle.intervals.proofs.widening.mark_below.Given as goal

abbrev pub invariant-loop-mark : goal.invariant-loop-mark
invariant-loop-mark l = (l.found ≤ℤ l.value)
    × (((l.found ≡ negsuc 9223372036854775807) ⊎ Contains l.marks l.found)
    × All (λ m. m ≤ℤ l.value → m ≤ℤ l.found) (take l.mark-index l.marks))
