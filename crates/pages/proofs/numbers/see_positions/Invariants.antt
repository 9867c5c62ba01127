use Rattle.std.proofs.Common.{◌<◌, ℕ, slice_index_or}
use Rattle.journal.specs.declared.reading.Reading.{Reading}
use Rattle.pages.specs.Counted.{IsWord}
use Rattle.pages.proofs.numbers.see_positions.Given as goal

abbrev pub invariant-loop-reading : goal.invariant-loop-reading
invariant-loop-reading l = (k : ℕ) (d : Reading) → k < l.reading-index → IsWord (slice_index_or l.readings k d).position
