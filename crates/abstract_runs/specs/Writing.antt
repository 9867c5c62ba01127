-- What the writes of a set of processors may leave.
use Rattle.std.specs.Prelude.{◌≡◌, ℕ, true, List, ℤ}
use Rattle.pram_model.specs.declared.rule.Rule.{Rule}
use Rattle.pram_model.specs.declared.rule.Rule.TheVariants.{Sum}
use Rattle.pram_values.specs.Value.{fits}
use Rattle.write_rules.specs.Rule.{sum_of}
use Rattle.intervals.specs.declared.interval.Interval.{Interval}
use Rattle.intervals.specs.Intervals.{IsIn}
use Rattle.pram_meaning.specs.Conflict.{Part, writes_to}
use Rattle.abstract_runs.specs.declared.findings.Findings.{Findings}
use Rattle.abstract_runs.specs.declared.row.Row.{Row}
use Rattle.abstract_runs.specs.Given.{AreGiven}
use Rattle.abstract_runs.specs.Rows.{ArePartsBy}

-- each sum of what is written to one cell lies in these, if it has 64 bits
abbrev pub HoldSums : List Row → Interval → Type 0
HoldSums rows sums = (faults : Findings) (xs : List Part) (c : ℕ) → ArePartsBy faults rows xs → AreGiven xs →
    fits (sum_of (writes_to c xs)) ≡ true → IsIn (sum_of (writes_to c xs)) sums

-- by a write of the first value, beside others, a cell may come to the second, where these are the sums
abbrev pub MayLeave : Rule → Interval → ℤ → ℤ → Type 0
MayLeave Sum sums w v = IsIn v sums
MayLeave rule sums w v = v ≡ w
