use Rattle.std.proofs.Common.{sym, ap, ◌∙◌}
use Rattle.std.proofs.Math.ListN.{drop_of_length-le}
use Rattle.std.specs.List.{list_any}
use Rattle.std.specs.Prelude.{not}
use Rattle.command_facts.specs.declared.found.GradeRow.{GradeRow}
use Rattle.command_facts.specs.Grades.{row_passes}
use Rattle.command_facts.proofs.status.has_failing.Goals as goal

pub returns : goal.returns
returns c =
    ap (list_any (λ (row : GradeRow). not (row_passes row))) (sym (drop_of_length-le c.args.rows.now c.loop-row-test.false))
    ∙ c.loop-row.invariant
