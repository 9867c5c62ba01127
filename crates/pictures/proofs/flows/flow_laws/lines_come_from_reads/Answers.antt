use Rattle.std.proofs.Common.{◌+◌}
use Rattle.pictures.specs.Acts.{acts_in}
use Rattle.pictures.specs.Flows.Laws.{cells, statements}
use Rattle.pictures.specs.Flows.Marks.{arrow_by}
use Rattle.pictures.proofs.OfFlows.Carriers.{arrow_is}
use Rattle.pictures.proofs.OfFlows.InPicture.{arrow_is_drawn}
use Rattle.pictures.proofs.OfFlows.Standing.{arrow_among, line_is_carried}
use Rattle.pictures.proofs.flows.flow_laws.lines_come_from_reads.Goals as goal

pub returns-clause-line : goal.returns-clause-line
returns-clause-line c = λ only aside es from to i p a source cell at one read is row_from row_to.
    arrow_among aside (cells only es from to) 1 (statements es from to) i p (arrow_by (1 + i) (aside p.1) (acts_in p.1) cell source)
    at.within at.is
    (arrow_is (cells only es from to) (1 + i) (aside p.1) (acts_in p.1) a source cell one read is row_from row_to)

pub returns-clause-drawn : goal.returns-clause-drawn
returns-clause-drawn c = arrow_is_drawn

pub returns-clause-carried : goal.returns-clause-carried
returns-clause-carried c = λ only aside es from to l one. line_is_carried aside (cells only es from to) 1 (statements es from to) l one
