use Rattle.pages.proofs.AsList.{cut_facts_are_read}
use Rattle.pages.proofs.page_laws.cut_facts_are_read.Goals as goal

pub returns : goal.returns
returns c = cut_facts_are_read
