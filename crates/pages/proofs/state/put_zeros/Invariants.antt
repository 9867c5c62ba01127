use Rattle.std.proofs.Common.{◌≡◌, ◌+◌, ◌-◌, length}
use Rattle.std.specs.Prelude.{ℤ}
use Rattle.journal.specs.Replay.{with_value}
use Rattle.pages.proofs.state.put_zeros.Given as goal

abbrev pub invariant-loop-values : goal.invariant-loop-values
invariant-loop-values l = (v : ℤ) → with_value l.values.items l.at v ≡ with_value l.fn.values.items l.at v

abbrev pub decreases-loop-values : goal.decreases-loop-values
decreases-loop-values l = l.at + 1 - length l.values.items
