use Rattle.help.proofs.Single.{message_lines}
use Rattle.help.proofs.message_laws.a_message_is_lines.Goals as goal

pub returns : goal.returns
returns c = message_lines
