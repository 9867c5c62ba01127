use Rattle.sized_texts.proofs.NoSizes.{itself_is}
use Rattle.sized_texts.proofs.size_laws.a_text_without_size_lines_is_itself.Goals as goal

pub returns : goal.returns
returns c = itself_is
