use Rattle.machine_limits.proofs.Messages.{messages_can_be_sent, messages_are_read_back, messages_are_short}
use Rattle.machine_limits.proofs.limit_laws.messages_fit.Goals as goal

pub returns : goal.returns
returns c = record { sent = messages_can_be_sent; read = messages_are_read_back; short = messages_are_short }
