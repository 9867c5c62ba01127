use Rattle.std.proofs.Common.{◌≡◌, drop}
use Rattle.std.specs.List.{list_any}
use Rattle.std.specs.Prelude.{not}
use Rattle.command_facts.specs.Grades.{row_passes}
use Rattle.command_facts.proofs.status.has_failing.Given as goal

abbrev pub invariant-loop-row : goal.invariant-loop-row
invariant-loop-row l =
    list_any (λ row. not (row_passes row)) (drop l.row-index l.rows) ≡ list_any (λ row. not (row_passes row)) l.rows
