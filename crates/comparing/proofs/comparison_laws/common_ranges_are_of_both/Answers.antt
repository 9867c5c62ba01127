use Rattle.comparing.proofs.Both.{both_have, common_ascends, common_itself, common_of_both}
use Rattle.comparing.proofs.comparison_laws.common_ranges_are_of_both.Goals as goal

pub returns-clause-both : goal.returns-clause-both
returns-clause-both c = λ l m. common_of_both l m

pub returns-clause-all : goal.returns-clause-all
returns-clause-all c = λ l m e start at there. both_have l m e start at there

pub returns-clause-ascending : goal.returns-clause-ascending
returns-clause-ascending c = λ l m. common_ascends l m

pub returns-clause-itself : goal.returns-clause-itself
returns-clause-itself c = λ l apart. common_itself l apart
