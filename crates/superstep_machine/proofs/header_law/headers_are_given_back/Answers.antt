use Rattle.superstep_machine.proofs.HeaderBack.{given_back}
use Rattle.superstep_machine.proofs.header_law.headers_are_given_back.Goals as goal

pub returns-clause-back : goal.returns-clause-back
returns-clause-back c = given_back
