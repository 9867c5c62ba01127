use Rattle.sized_texts.proofs.Sound.{braced_ok}
use Rattle.sized_texts.proofs.size_laws.what_is_read_is_by_the_grammar.Goals as goal

pub returns : goal.returns
returns c = braced_ok
