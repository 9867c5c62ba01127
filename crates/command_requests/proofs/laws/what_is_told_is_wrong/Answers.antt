use Rattle.std.proofs.Common.{None}
use Rattle.command_requests.specs.Values.{tells_costs}
use Rattle.command_requests.proofs.Told.{it_is_its_value, it_refuses}
use Rattle.command_requests.proofs.laws.what_is_told_is_wrong.Goals as goal

pub returns-clause-value : goal.returns-clause-value
returns-clause-value c = λ words told g w. it_is_its_value (tells_costs words) words told g w

pub returns-clause-refused : goal.returns-clause-refused
returns-clause-refused c = λ words told g w. it_refuses (tells_costs words) None words told g w
