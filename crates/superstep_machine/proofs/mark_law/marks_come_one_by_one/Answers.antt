use Rattle.superstep_machine.proofs.Refused.{first_is_sent, rest_is_left}
use Rattle.superstep_machine.proofs.mark_law.marks_come_one_by_one.Goals as goal

pub returns : goal.returns
returns c = record { sent = first_is_sent; left = rest_is_left }
