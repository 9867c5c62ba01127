use Rattle.tidying.specs.Certificates.{AreRight}
use Rattle.tidying.specs.Shown.{shown}
use Rattle.tidying.proofs.certified.is_certified.Given as goal

abbrev pub invariant-loop-at : goal.invariant-loop-at
invariant-loop-at l = AreRight (shown l.c) l.long l.short l.at
