use Rattle.pictures.proofs.OfSteps.Standings.{name_stands}
use Rattle.pictures.proofs.steps.picture_laws.each_row_has_its_name.Goals as goal

pub returns : goal.returns
returns c = record { stands = name_stands }
