use Rattle.std.proofs.Common.{◌≡◌, ◌++◌, map, List, vec_len}
use Rattle.turnstile.specs.Lines.{starter}
use Rattle.turnstile.specs.Runners.{RunnerState, entry_of}
use Rattle.turnstile.proofs.start.taking.take_all.Given as goal

abbrev pub invariant-loop-from : goal.invariant-loop-from
invariant-loop-from g l = let v = l.initial.chair.me.0 in record {
  table : l.chair.table_id ≡ l.initial.chair.table_id;
  id : l.chair.id ≡ l.initial.chair.id;
  taken : (taken : List (RunnerState g.row.T.Denot)) × (l.runners.items ++ taken ≡ l.initial.runners.items)
      × (l.chair.me ≡ (starter v.at v.holds v.said (map entry_of taken), l.initial.chair.me.1));
}

abbrev pub decreases-loop-from : goal.decreases-loop-from
decreases-loop-from g l = vec_len l.runners
