use Rattle.sized_laws.proofs.Grammar.{expression_reads}
use Rattle.sized_laws.proofs.expressions_are_read.Goals as goal

pub returns : goal.returns
returns c = expression_reads
