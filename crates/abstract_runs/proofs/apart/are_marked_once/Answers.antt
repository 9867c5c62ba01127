use Rattle.abstract_runs.proofs.Unmet.{all_unmet, next_marked, none_more}
use Rattle.abstract_runs.proofs.apart.are_marked_once.Goals as goal

pub loop-k-preserved-in_default : goal.loop-k-preserved-in_default
loop-k-preserved-in_default c = none_more c.args.reaches.now c.loop-k.k _ c.loop-k.invariant c.in_default.is

pub loop-k-preserved : goal.loop-k-preserved
loop-k-preserved c =
    next_marked c.args.reaches.now c.loop-k.k c.loop-k.marks.items c.mark.new.marks.items c.in-Some.reach c.loop-k.invariant c.in-Some.is
    (c.mark.ensures.fresh c.if-not-mark.false) c.mark.ensures.kept (c.mark.ensures.marked c.if-not-mark.false)

pub returns : goal.returns
returns c = λ e. all_unmet c.args.reaches.now c.loop-k.k _ c.loop-k.invariant c.loop-k-test.false
