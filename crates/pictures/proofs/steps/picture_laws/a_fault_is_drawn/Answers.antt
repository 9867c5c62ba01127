use Rattle.pictures.proofs.OfSteps.Contained.{has_row}
use Rattle.pictures.proofs.OfSteps.Standings.{ending_stands, last_is_drawn, outline_stands}
use Rattle.pictures.proofs.steps.picture_laws.a_fault_is_drawn.Goals as goal

pub returns-clause-drawn : goal.returns-clause-drawn
returns-clause-drawn c = last_is_drawn

pub returns-clause-rows : goal.returns-clause-rows
returns-clause-rows c = has_row

pub returns-clause-outlined : goal.returns-clause-outlined
returns-clause-outlined c = outline_stands

pub returns-clause-told : goal.returns-clause-told
returns-clause-told c = ending_stands
