use Rattle.std.proofs.Common.{ap, ◌+◌, subst, ◌≤◌}
use Rattle.abstract_runs.proofs.Unmet.{all_unmet, next_behind, none_more}
use Rattle.abstract_runs.proofs.apart.ascend.Goals as goal

pub loop-k-preserved-in_default : goal.loop-k-preserved-in_default
loop-k-preserved-in_default c = none_more c.args.reaches.now c.loop-k.k _ c.loop-k.invariant c.in_default.is

pub loop-k-preserved : goal.loop-k-preserved
loop-k-preserved c =
    next_behind c.args.reaches.now c.loop-k.k c.loop-k.next (c.from-next.result + 1) c.in-Some.reach c.loop-k.invariant c.in-Some.is
    (subst (λ n. c.loop-k.next ≤ n) c.from.ensures c.if-from-next.false) c.if-reach.false (ap (λ n. n + 1) c.from-next.ensures)

pub returns : goal.returns
returns c = λ e. all_unmet c.args.reaches.now c.loop-k.k _ c.loop-k.invariant c.loop-k-test.false
