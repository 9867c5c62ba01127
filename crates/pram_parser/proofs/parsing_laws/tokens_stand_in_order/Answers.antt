use Rattle.pram_trees.specs.Program.{program_tokens}
use Rattle.pram_tokens.proofs.Offsets.{in_order}
use Rattle.pram_parser.proofs.parsing_laws.tokens_stand_in_order.Goals as goal

pub returns : goal.returns
returns c text tree is = in_order text (program_tokens tree) is.offsets is.tokens
