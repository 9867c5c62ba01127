use Rattle.std.proofs.Common.{◌≡◌}
use Rattle.pram_meaning.specs.Store.{State}
use Rattle.abstract_runs.specs.Following.{Follows}
use Rattle.abstract_runs.specs.Standing.{IsKnownAs}
use Rattle.abstract_runs.proofs.holding.hold_back_all.Given as goal

-- what was known is known still
abbrev pub invariant-loop-x : goal.invariant-loop-x
invariant-loop-x l = ((m : State) → IsKnownAs l.fn.known m → IsKnownAs l.known m) × Follows l.fn.known l.known
    × (l.known.most ≡ l.fn.known.most)
