use Rattle.flat_machine.proofs.verdict_law.any_time_of_verdict.Goals as goal
use Rattle.flat_machine.proofs.AnyTime.{any_time_of_verdict}

pub returns : goal.returns
returns c = any_time_of_verdict
