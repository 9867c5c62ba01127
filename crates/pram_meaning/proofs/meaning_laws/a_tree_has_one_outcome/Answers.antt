use Rattle.pram_meaning.proofs.OneTree.{tree_has_one_outcome}
use Rattle.pram_meaning.proofs.meaning_laws.a_tree_has_one_outcome.Goals as goal

pub returns : goal.returns
returns c = tree_has_one_outcome
