use Rattle.rule_laws.proofs.Outcomes.{common_is_priority}
use Rattle.rule_laws.proofs.laws.common_is_priority.Goals as goal

pub returns : goal.returns
returns c = common_is_priority
