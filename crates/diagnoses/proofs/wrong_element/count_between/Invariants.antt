use Rattle.std.proofs.Common.{◌≡◌, ◌≤◌, take}
use Rattle.diagnoses.specs.WrongElements.{count_between}
use Rattle.diagnoses.proofs.wrong_element.count_between.Given as goal

-- of the reads up to here
abbrev pub invariant-loop-cell : goal.invariant-loop-cell
invariant-loop-cell l = (l.count ≡ count_between l.first l.last (take l.cell-index l.reads)) × (l.count ≤ l.cell-index)
