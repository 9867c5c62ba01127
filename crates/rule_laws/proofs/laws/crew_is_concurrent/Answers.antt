use Rattle.rule_laws.proofs.Outcomes.{crew_is_concurrent}
use Rattle.rule_laws.proofs.laws.crew_is_concurrent.Goals as goal

pub returns : goal.returns
returns c = crew_is_concurrent
