use Rattle.pages.proofs.AsList.{facts_are_read}
use Rattle.pages.proofs.page_laws.facts_are_read.Goals as goal

pub returns : goal.returns
returns c = facts_are_read
