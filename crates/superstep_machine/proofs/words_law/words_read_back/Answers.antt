use Rattle.superstep_machine.proofs.ReadBack.{message_back}
use Rattle.superstep_machine.proofs.words_law.words_read_back.Goals as goal

pub returns : goal.returns
returns c = record { back = message_back }
