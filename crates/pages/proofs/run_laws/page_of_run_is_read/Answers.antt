use Rattle.pages.proofs.ReadBack.{page_of_run_is_read}
use Rattle.pages.proofs.run_laws.page_of_run_is_read.Goals as goal

pub returns : goal.returns
returns c = page_of_run_is_read
