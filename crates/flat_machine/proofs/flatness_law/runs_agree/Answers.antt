use Rattle.flat_machine.proofs.Laws as laws
use Rattle.flat_machine.proofs.flatness_law.runs_agree.Goals as goal

pub returns : goal.returns
returns c = laws.runs_agree
