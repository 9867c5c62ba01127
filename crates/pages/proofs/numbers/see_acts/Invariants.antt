use Rattle.std.proofs.Common.{◌<◌, ℕ, slice_index_or}
use Rattle.journal.specs.declared.act.Act.{Act}
use Rattle.pages.specs.Counted.{HasWords}
use Rattle.pages.proofs.numbers.see_acts.Given as goal

abbrev pub invariant-loop-act : goal.invariant-loop-act
invariant-loop-act l = (k : ℕ) (d : Act) → k < l.act-index → HasWords (slice_index_or l.acts k d)
