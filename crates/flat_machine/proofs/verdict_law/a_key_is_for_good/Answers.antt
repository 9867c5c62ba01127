use Rattle.flat_machine.proofs.verdict_law.a_key_is_for_good.Goals as goal
use Rattle.flat_machine.proofs.AnyTime.{a_key_is_for_good}

pub returns : goal.returns
returns c = a_key_is_for_good
