use Rattle.std.specs.Prelude.{◌≡◌, length}
use Rattle.tidying.specs.Certificates.{IsLike}
use Rattle.tidying.proofs.building.rebuilt.Given as goal

abbrev pub invariant-loop-at : goal.invariant-loop-at
invariant-loop-at l = IsLike l.code l.left × (length l.left.instructions ≡ l.at)
