use Rattle.pram_check.proofs.ProgramFaults.{first_is_least, breaches_ascend}
use Rattle.pram_check.proofs.breach_laws.first_breach_is_least.Goals as goal

pub returns-clause-least : goal.returns-clause-least
returns-clause-least c = first_is_least

pub returns-clause-ascend : goal.returns-clause-ascend
returns-clause-ascend c = breaches_ascend
