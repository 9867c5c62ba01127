use Rattle.std.proofs.Common.{◌≡◌}
use Rattle.plain_form.specs.Formulas.{nesting}
use Rattle.straight_lowering.specs.Cursors.{so_far}
use Rattle.straight_lowering.proofs.reads.+nesting.Given as goal

-- in the links so far
abbrev pub invariant-loop-link : goal.invariant-loop-link
invariant-loop-link l = l.most ≡ nesting (so_far l.e l.link-items l.link-index)
