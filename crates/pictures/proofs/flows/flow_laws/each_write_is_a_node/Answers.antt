use Rattle.std.proofs.Common.{◌+◌}
use Rattle.pictures.specs.Acts.{acts_in}
use Rattle.pictures.specs.Flows.Laws.{cells, statements}
use Rattle.pictures.specs.Flows.Marks.{node}
use Rattle.pictures.specs.Flows.Values.{value_behind}
use Rattle.pictures.proofs.OfFlows.Carriers.{node_is}
use Rattle.pictures.proofs.OfFlows.InPicture.{node_is_drawn}
use Rattle.pictures.proofs.OfFlows.Standing.{node_among}
use Rattle.pictures.proofs.flows.flow_laws.each_write_is_a_node.Goals as goal

pub returns-clause-node : goal.returns-clause-node
returns-clause-node c = λ only opening es from to i p a cell at one is row.
    node_among opening es (cells only es from to) 1 (statements es from to) i p (node (1 + i) (value_behind opening es p.0) cell)
    at.within at.is
    (node_is (cells only es from to) (1 + i) (value_behind opening es p.0) (acts_in p.1) a cell one is row)

pub returns-clause-drawn : goal.returns-clause-drawn
returns-clause-drawn c = node_is_drawn
