use Rattle.std.proofs.Common.{◌≢◌, ◌<◌, ◌^◌, ℕ, pos}
use Rattle.prepared_division.proofs.power.PowerOfTwo.new.Given as goal

abbrev pub invariant-shifts : goal.invariant-shifts
invariant-shifts l = (k : ℕ) → k < l.shift → l.value ≢ pos (2 ^ k)
