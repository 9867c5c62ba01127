use Rattle.scopes.proofs.Spans.{among, bounds, none}
use Rattle.scopes.proofs.exploration_laws.spans_are_of_the_numbers.Goals as goal

pub returns-clause-among : goal.returns-clause-among
returns-clause-among c = λ ks s e. among ks s e

pub returns-clause-bounds : goal.returns-clause-bounds
returns-clause-bounds c = λ ks s e. bounds ks s e

pub returns-clause-none : goal.returns-clause-none
returns-clause-none c = λ ks. none ks
