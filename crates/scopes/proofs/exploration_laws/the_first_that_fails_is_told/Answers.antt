use Rattle.scopes.specs.Specified.{counting, failing, fails}
use Rattle.scopes.proofs.Told.{is_first, none_there}
use Rattle.scopes.proofs.exploration_laws.the_first_that_fails_is_told.Goals as goal

pub returns-clause-first : goal.returns-clause-first
returns-clause-first c = λ s p n inputs input h. is_first (fails s.postcondition p n) (counting s.precondition n inputs) input h

pub returns-clause-none : goal.returns-clause-none
returns-clause-none c = λ s p n inputs. none_there (failing s.postcondition p n (counting s.precondition n inputs))
