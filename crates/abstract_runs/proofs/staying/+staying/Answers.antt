use Rattle.std.proofs.Common.{subst}
use Rattle.std.proofs.lemmas.List.{take_all}
use Rattle.std.specs.List.{AllByRecursion}
use Rattle.abstract_runs.specs.Staying.{AreStaying, IsStaying}
use Rattle.abstract_runs.proofs.Remaining.{if_stays, list_stays, while_stays}
use Rattle.abstract_runs.proofs.staying.+staying.Goals as goal

pub sets_local-returns-in-While : goal.sets_local-returns-in-While
sets_local-returns-in-While t c = λ e. while_stays c.args.s.now _ _ _ c.in-While.is (c.set_local.ensures e)

pub sets_local-returns-else-set_local : goal.sets_local-returns-else-set_local
sets_local-returns-else-set_local t c = λ e.
    if_stays c.args.s.now _ _ _ _ c.in-If.is (c.set_local-in-If.ensures c.if-set_local.false) (c.set_local-in-If-2.ensures e)

pub set_local-returns : goal.set_local-returns
set_local-returns t c = λ e.
    subst AreStaying c.deref-s-items.ensures.value
    (list_stays c.deref-s-items.result.now
    (subst (AllByRecursion IsStaying) (take_all c.loop-s.s-index c.deref-s-items.result.now c.loop-s-test.false) c.loop-s.invariant))
