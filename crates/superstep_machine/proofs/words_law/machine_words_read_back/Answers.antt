use Rattle.superstep_machine.proofs.MachineWords.{sent_back, replied_back, voted_back, closing_back}
use Rattle.superstep_machine.proofs.words_law.machine_words_read_back.Goals as goal

pub returns : goal.returns
returns c = record { sent = sent_back; replied = replied_back; voted = voted_back; closing = closing_back }
