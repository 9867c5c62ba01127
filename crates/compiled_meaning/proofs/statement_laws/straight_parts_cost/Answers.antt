use Rattle.compiled_meaning.proofs.EachStatement.Costs.{straight_parts_cost}
use Rattle.compiled_meaning.proofs.statement_laws.straight_parts_cost.Goals as goal

pub returns : goal.returns
returns c = record { cost = straight_parts_cost }
