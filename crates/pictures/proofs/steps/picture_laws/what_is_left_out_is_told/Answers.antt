use Rattle.pictures.proofs.OfSteps.Standings.{left_out, more_told, statements_told}
use Rattle.pictures.proofs.steps.picture_laws.what_is_left_out_is_told.Goals as goal

pub returns-clause-statements : goal.returns-clause-statements
returns-clause-statements c = statements_told

pub returns-clause-count : goal.returns-clause-count
returns-clause-count c = left_out

pub returns-clause-processors : goal.returns-clause-processors
returns-clause-processors c = more_told
