use Rattle.std.proofs.Common.{drop}
use Rattle.text_out.proofs.Progress.{Progress}
use Rattle.command_text.specs.Grades.{rows_text}
use Rattle.command_text.proofs.grading.write_rows.Given as goal

abbrev pub invariant-loop-row : goal.invariant-loop-row
invariant-loop-row g l =
    Progress (g.W.Out.state l.fn.out) (g.W.Out.state l.out) (rows_text l.fn.first_name l.fn.rows)
    (rows_text l.fn.first_name (drop l.row-index l.fn.rows))
