use Rattle.pages.proofs.Embedding.{no_tag}
use Rattle.pages.proofs.page_laws.facts_have_no_tag.Goals as goal

pub returns : goal.returns
returns c = no_tag
