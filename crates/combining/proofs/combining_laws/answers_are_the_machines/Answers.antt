use Rattle.combining.proofs.ModuleReplies.{answers_are_the_reply}
use Rattle.combining.proofs.combining_laws.answers_are_the_machines.Goals as goal

pub returns : goal.returns
returns c = answers_are_the_reply
