-- The faults that may come in a statement, by their positions.
use Rattle.std.specs.Prelude.{◌≤◌, ℕ, Bool, true, not, nat_lt, Option, Some, None, IsSomeAnd, if◌then◌else◌}
use Rattle.pram_values.specs.declared.kind.Kind.{Kind}
use Rattle.pram_values.specs.declared.kind.Kind.TheVariants.{Overflow, DivideByZero, OutOfRange, TooWide, ReadConflict, WriteConflict}
use Rattle.all_inputs.specs.declared.reason.Reason.{Reason}
use Rattle.abstract_runs.specs.declared.finding.Finding.{Finding}
use Rattle.abstract_runs.specs.declared.findings.Findings.{Findings}

-- what was found of that kind
abbrev pub found_for : Kind → Findings → Option Finding
found_for Overflow f = f.overflow
found_for DivideByZero f = f.divide_by_zero
found_for OutOfRange f = f.out_of_range
found_for TooWide f = f.too_wide
found_for ReadConflict f = f.read_conflict
found_for WriteConflict f = f.write_conflict

-- it was found, at that position or before it
abbrev pub IsBy : ℕ → Option Finding → Type 0
IsBy at found = IsSomeAnd found (λ n. n.position ≤ at)

-- a fault of that kind may come at that position
abbrev pub MayBy : Kind → ℕ → Findings → Type 0
MayBy kind at f = IsBy at (found_for kind f)

-- whatever may come by the first may come by the second
abbrev pub AreKept : Findings → Findings → Type 0
AreKept f g = (kind : Kind) (at : ℕ) → MayBy kind at f → MayBy kind at g

-- a position that isn't behind the last one, where there is one
abbrev pub is_within : Option ℕ → ℕ → Bool
is_within None at = true
is_within (Some last) at = not (nat_lt last at)

-- why, where it was found by the last position
abbrev pub reason_within : Option ℕ → Option Finding → Option Reason
reason_within last None = None
reason_within last (Some n) = if is_within last n.position then Some n.reason else None
