use Rattle.pictures.proofs.OfSteps.Ordered.{acts_or_met, rows_ascend, rows_few}
use Rattle.pictures.proofs.OfSteps.Whole.{all_have_rows}
use Rattle.pictures.proofs.steps.picture_laws.rows_are_of_those_that_act.Goals as goal

pub returns-clause-acts : goal.returns-clause-acts
returns-clause-acts c = acts_or_met

pub returns-clause-ascend : goal.returns-clause-ascend
returns-clause-ascend c = rows_ascend

pub returns-clause-few : goal.returns-clause-few
returns-clause-few c = rows_few

pub returns-clause-all : goal.returns-clause-all
returns-clause-all c = all_have_rows
