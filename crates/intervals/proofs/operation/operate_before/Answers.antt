use Rattle.intervals.proofs.operation.operate_before.Goals as goal

pub returns-in-Negate-clause-told : goal.returns-in-Negate-clause-told
returns-in-Negate-clause-told c = rw c.in-Negate.is c.negate.ensures.told

pub returns-in-Negate-clause-reached : goal.returns-in-Negate-clause-reached
returns-in-Negate-clause-reached c = rw c.in-Negate.is c.negate.ensures.ends

pub returns-in-Not-clause-told : goal.returns-in-Not-clause-told
returns-in-Not-clause-told c = rw c.in-Not.is c.negation.ensures.told

pub returns-in-Not-clause-reached : goal.returns-in-Not-clause-reached
returns-in-Not-clause-reached c = rw c.in-Not.is c.negation.ensures.ends
