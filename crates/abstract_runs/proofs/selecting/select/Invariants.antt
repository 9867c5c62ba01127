use Rattle.std.proofs.Common.{List, take}
use Rattle.pram_meaning.specs.Conflict.{Part}
use Rattle.pram_meaning.specs.Together.{those}
use Rattle.abstract_runs.specs.declared.findings.Findings.{Findings}
use Rattle.abstract_runs.specs.Given.{AreGiven}
use Rattle.abstract_runs.specs.Rows.{AreActive, ArePartsBy}
use Rattle.abstract_runs.proofs.selecting.select.Given as goal

-- those of the rows that were gone over
abbrev pub invariant-loop-k : goal.invariant-loop-k
invariant-loop-k l =
    (faults : Findings) (xs : List Part) → ArePartsBy faults (take l.k l.fn.rows) xs → AreGiven xs →
    AreActive l.chosen.items (those l.fn.wanted xs)
