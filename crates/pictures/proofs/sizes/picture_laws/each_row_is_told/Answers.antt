use Rattle.pictures.proofs.OfSizes.Standing.{time_stands, work_stands}
use Rattle.pictures.proofs.sizes.picture_laws.each_row_is_told.Goals as goal

pub returns-clause-time : goal.returns-clause-time
returns-clause-time c = time_stands

pub returns-clause-work : goal.returns-clause-work
returns-clause-work c = work_stands
