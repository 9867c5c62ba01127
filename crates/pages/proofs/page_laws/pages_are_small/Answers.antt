use Rattle.pages.proofs.Sizes.{page_size}
use Rattle.pages.proofs.page_laws.pages_are_small.Goals as goal

pub returns : goal.returns
returns c = page_size
