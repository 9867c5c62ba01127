use Rattle.std.specs.Prelude.{◌<◌, ◌+◌, ◌^◌, ℕ}
use Rattle.prepared_division.proofs.divisor.shift_for.Given as goal

-- no shift so far reaches the divisor
abbrev pub invariant-shifts : goal.invariant-shifts
invariant-shifts l = (s : ℕ) → s < l.shift → 2 ^ (s + 1) < l.divisor
