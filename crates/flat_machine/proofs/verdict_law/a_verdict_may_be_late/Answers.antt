use Rattle.flat_machine.proofs.verdict_law.a_verdict_may_be_late.Goals as goal
use Rattle.flat_machine.proofs.AnyTime.{a_verdict_may_be_late}

pub returns : goal.returns
returns c = a_verdict_may_be_late
