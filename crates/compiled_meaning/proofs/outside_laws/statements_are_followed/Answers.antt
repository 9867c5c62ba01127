use Rattle.compiled_meaning.proofs.Outside.Followed.{statements_are_followed}
use Rattle.compiled_meaning.proofs.outside_laws.statements_are_followed.Goals as goal

pub returns : goal.returns
returns c = record { statements = statements_are_followed }
