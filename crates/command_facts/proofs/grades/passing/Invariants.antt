use Rattle.std.proofs.Common.{◌≡◌, ◌≤◌, take}
use Rattle.command_facts.specs.Grades.{passing}
use Rattle.command_facts.proofs.grades.passing.Given as goal

-- of the rows up to here
abbrev pub invariant-loop-row : goal.invariant-loop-row
invariant-loop-row l = (l.count ≡ passing (take l.row-index l.rows)) × (l.count ≤ l.row-index)
