use Rattle.std.proofs.Common.{◌≡◌}
use Rattle.straight_lowering.specs.Cursors.{behind, so_far}
use Rattle.straight_lowering.proofs.cursor.+passed.Given as goal

-- behind the links so far
abbrev pub invariant-loop-link : goal.invariant-loop-link
invariant-loop-link l = l.now ≡ behind (so_far l.e l.link-items l.link-index) l.fn.at
