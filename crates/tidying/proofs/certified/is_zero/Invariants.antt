use Rattle.tidying.specs.Rows.{RefinesBelow, all_zero}
use Rattle.tidying.specs.Shown.{number_of, row_of}
use Rattle.tidying.proofs.certified.is_zero.Given as goal

abbrev pub invariant-loop-s : goal.invariant-loop-s
invariant-loop-s l = RefinesBelow l.s (row_of l.there) (all_zero (number_of l.constants l.side))
