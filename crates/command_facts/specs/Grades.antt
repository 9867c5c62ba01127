-- Which of the programs that are graded pass.
use Rattle.std.specs.Prelude.{ℕ, nat_eq, nat_lt, Bool, true, false, not, ◌&&◌, if◌then◌else◌, List, Option, Some, None}
use Rattle.std.specs.Prelude.{Result, Ok, Err, length}
use Rattle.std.specs.List.{filter}
use Rattle.command_facts.specs.declared.found.FoundPair.{FoundPair}
use Rattle.command_facts.specs.declared.found.GradeRow.{GradeRow}
use Rattle.diagnoses.specs.declared.halted.Halted.{Halted}

abbrev pub is_at_most : ℕ → Option ℕ → Bool
is_at_most count None = true
is_at_most count (Some most) = not (nat_lt most count)

-- the second program declares no more processors than it may
abbrev pub keeps_procs : FoundPair → Bool
keeps_procs f = is_at_most f.second.procs f.most_procs

-- on how many inputs it is right within its limits
abbrev pub correct_of : FoundPair → ℕ
correct_of f = if keeps_procs f then f.comparison.score.correct else 0

-- some input counts, and it is right on each that does
abbrev pub pair_passes : FoundPair → Bool
pair_passes f = nat_lt 0 f.comparison.counting && nat_eq (correct_of f) f.comparison.counting

abbrev pub passes_by : Result FoundPair Halted → Bool
passes_by (Ok f) = pair_passes f
passes_by (Err h) = false

abbrev pub row_passes : GradeRow → Bool
row_passes row = passes_by row.graded

abbrev pub passing : List GradeRow → ℕ
passing rows = length (filter row_passes rows)
