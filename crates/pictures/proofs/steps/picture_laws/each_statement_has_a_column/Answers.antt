use Rattle.pictures.proofs.OfSteps.Standings.{column_stands, one_place, within_page}
use Rattle.pictures.proofs.steps.picture_laws.each_statement_has_a_column.Goals as goal

pub returns-clause-stands : goal.returns-clause-stands
returns-clause-stands c = column_stands

pub returns-clause-one : goal.returns-clause-one
returns-clause-one c = one_place

pub returns-clause-page : goal.returns-clause-page
returns-clause-page c = within_page
