use Rattle.abstract_runs.specs.Columns.{HasWords}
use Rattle.abstract_runs.proofs.RowSums.{all_more, targets_more}
use Rattle.abstract_runs.proofs.row.targets.Goals as goal

pub loop-k-preserved : goal.loop-k-preserved
loop-k-preserved c = (
  targets_more c.args.rows.now c.loop-k.k c.index-rows-k.result c.loop-k.reaches.items _ c.target.result c.loop-k.invariant.0
      c.loop-k-test.true
      c.index-rows-k.is c.target.ensures.reach c.in_ok-push.ensures.items,
  all_more HasWords c.args.rows.now c.loop-k.k c.index-rows-k.result c.loop-k.invariant.1 c.loop-k-test.true c.index-rows-k.is
      c.target.ensures.words,
)
