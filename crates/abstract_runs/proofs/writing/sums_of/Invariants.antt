use Rattle.std.proofs.Common.{ℕ, List, take}
use Rattle.write_rules.specs.Rule.{sum_of}
use Rattle.intervals.specs.Intervals.{IsIn}
use Rattle.pram_meaning.specs.Conflict.{Part, writes_to}
use Rattle.abstract_runs.specs.declared.findings.Findings.{Findings}
use Rattle.abstract_runs.specs.Given.{AreGiven}
use Rattle.abstract_runs.specs.Rows.{ArePartsBy}
use Rattle.abstract_runs.proofs.writing.sums_of.Given as goal

-- the sums of what the rows that were gone over write
abbrev pub invariant-loop-k : goal.invariant-loop-k
invariant-loop-k l =
    (faults : Findings) (xs : List Part) (c : ℕ) → ArePartsBy faults (take l.k l.fn.rows) xs → AreGiven xs →
    IsIn (sum_of (writes_to c xs)) l.sums
