use Rattle.pictures.proofs.OfSteps.Standings.{box_stands, outside_stands}
use Rattle.pictures.proofs.steps.picture_laws.each_processor_has_a_box.Goals as goal

pub returns : goal.returns
returns c = record { stands = box_stands; outside = outside_stands }
