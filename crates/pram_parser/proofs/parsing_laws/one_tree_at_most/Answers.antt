use Rattle.pram_parser.proofs.OneTree as trees
use Rattle.pram_parser.proofs.parsing_laws.one_tree_at_most.Goals as goal

pub returns : goal.returns
returns c = trees.one_tree_at_most
