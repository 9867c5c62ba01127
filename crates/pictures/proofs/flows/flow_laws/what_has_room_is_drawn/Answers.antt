use Rattle.pictures.proofs.OfFlows.Complete.{fault_has_row, fault_is_drawn, few_are_drawn, touched_has_row, touching_is_drawn}
use Rattle.pictures.proofs.OfFlows.Drawn.{drawn_touches}
use Rattle.pictures.proofs.OfFlows.ChosenRows.{row_is_chosen}
use Rattle.pictures.proofs.flows.flow_laws.what_has_room_is_drawn.Goals as goal

pub returns-clause-fault : goal.returns-clause-fault
returns-clause-fault c = fault_is_drawn

pub returns-clause-statements : goal.returns-clause-statements
returns-clause-statements c = few_are_drawn

pub returns-clause-touching : goal.returns-clause-touching
returns-clause-touching c = touching_is_drawn

pub returns-clause-no_other : goal.returns-clause-no_other
returns-clause-no_other c = λ es from to p one. drawn_touches from to es p one

pub returns-clause-cells : goal.returns-clause-cells
returns-clause-cells c = touched_has_row

pub returns-clause-chosen : goal.returns-clause-chosen
returns-clause-chosen c = row_is_chosen

pub returns-clause-fault_cell : goal.returns-clause-fault_cell
returns-clause-fault_cell c = fault_has_row
