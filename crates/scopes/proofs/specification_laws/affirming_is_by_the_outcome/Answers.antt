use Rattle.scopes.proofs.Affirmed.{affirmed, has_failed}
use Rattle.scopes.proofs.specification_laws.affirming_is_by_the_outcome.Goals as goal

pub returns-clause-affirms : goal.returns-clause-affirms
returns-clause-affirms c = λ q n input. affirmed q n input

pub returns-clause-fails : goal.returns-clause-fails
returns-clause-fails c = λ p q n input. has_failed p q n input
