use Rattle.tidying.specs.Rows.{RefinesBelow}
use Rattle.tidying.specs.Shown.{number_of, part_of, row_of, rows_behind, rows_of}
use Rattle.tidying.proofs.check.is_refined.Given as goal

abbrev pub invariant-loop-s : goal.invariant-loop-s
invariant-loop-s l = RefinesBelow l.s (row_of l.there) (part_of l.part (rows_behind l.without (number_of l.constants) l.into
    (rows_of l.known) l.instr))
