use Rattle.pages.proofs.AsList.{outcome_is_read}
use Rattle.pages.proofs.page_laws.outcome_is_read.Goals as goal

pub returns : goal.returns
returns c = outcome_is_read
