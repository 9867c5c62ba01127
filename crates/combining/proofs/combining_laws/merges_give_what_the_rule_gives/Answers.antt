use Rattle.combining.proofs.ByTheRule.{merges_by_the_rule}
use Rattle.combining.proofs.combining_laws.merges_give_what_the_rule_gives.Goals as goal

pub returns : goal.returns
returns c = merges_by_the_rule
