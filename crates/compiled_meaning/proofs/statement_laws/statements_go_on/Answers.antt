use Rattle.compiled_meaning.proofs.EachStatement.Begins.{statements_go_on}
use Rattle.compiled_meaning.proofs.statement_laws.statements_go_on.Goals as goal

pub returns : goal.returns
returns c = record { on = statements_go_on }
