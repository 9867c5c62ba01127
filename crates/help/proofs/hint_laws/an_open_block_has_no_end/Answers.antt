use Rattle.help.proofs.OpenBlocks.{open_in}
use Rattle.help.proofs.hint_laws.an_open_block_has_no_end.Goals as goal

pub returns : goal.returns
returns c = open_in
