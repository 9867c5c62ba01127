use Rattle.pictures.proofs.OfFlows.Shaped.{facts_are_so, rows_were_touched, the_picture_is_its_shapes}
use Rattle.pictures.proofs.flows.flow_laws.the_picture_is_its_shapes.Goals as goal

pub returns : goal.returns
returns c = record { whole = the_picture_is_its_shapes; so = facts_are_so; touched = rows_were_touched }
