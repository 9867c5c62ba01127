use Rattle.std.proofs.Common.{◌<◌, ℕ, slice_index_or}
use Rattle.journal.specs.declared.change.Change.{Change}
use Rattle.pages.specs.Counted.{IsWord}
use Rattle.pages.proofs.numbers.see_variables.Given as goal

abbrev pub invariant-loop-change : goal.invariant-loop-change
invariant-loop-change l = (k : ℕ) (d : Change) → k < l.change-index → IsWord (slice_index_or l.changes k d).cell
