use Rattle.std.proofs.Common.{subst, ◌∙◌}
use Rattle.abstract_runs.specs.Apart.{AreApart}
use Rattle.abstract_runs.proofs.SharedReads.{position_more, all_positions}
use Rattle.abstract_runs.proofs.conflicts.first_shared.Goals as goal

pub loop-k-preserved : goal.loop-k-preserved
loop-k-preserved c =
    position_more c.args.rows.now c.loop-k.k c.loop-k.invariant
    (subst AreApart (c.deref.ensures.value ∙ c.in_ok-reaches.ensures) (c.in_ok-apart.ensures c.if-not-apart.false))

pub returns : goal.returns
returns c = all_positions c.args.rows.now c.longest-most.result c.loop-k.k c.loop-k.invariant c.longest-most.ensures c.loop-k-test.false
