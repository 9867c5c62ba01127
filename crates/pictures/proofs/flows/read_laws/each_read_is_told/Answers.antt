use Rattle.pictures.proofs.OfFlows.Counted.{each_of_assignments, each_of_bounds, each_of_expressions, each_of_steps}
use Rattle.pictures.proofs.flows.read_laws.each_read_is_told.Goals as goal

pub returns-clause-expressions : goal.returns-clause-expressions
returns-clause-expressions c = each_of_expressions

pub returns-clause-bounds : goal.returns-clause-bounds
returns-clause-bounds c = each_of_bounds

pub returns-clause-assignments : goal.returns-clause-assignments
returns-clause-assignments c = each_of_assignments

pub returns-clause-steps : goal.returns-clause-steps
returns-clause-steps c = each_of_steps
