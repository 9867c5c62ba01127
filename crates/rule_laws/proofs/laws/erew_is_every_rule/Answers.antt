use Rattle.rule_laws.proofs.Outcomes.{erew_is_every_rule}
use Rattle.rule_laws.proofs.laws.erew_is_every_rule.Goals as goal

pub returns : goal.returns
returns c = erew_is_every_rule
