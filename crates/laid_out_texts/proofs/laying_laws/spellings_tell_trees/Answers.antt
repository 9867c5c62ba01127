use Rattle.laid_out_texts.proofs.Trees.{tell_trees}
use Rattle.laid_out_texts.proofs.laying_laws.spellings_tell_trees.Goals as goal

pub returns : goal.returns
returns c = tell_trees c.printing_reads_back.ensures.reads_back c.one_tree_at_most.ensures
