use Rattle.scopes.specs.Found.{going_on}
use Rattle.scopes.specs.Runs.{is_going_on, verdict_on}
use Rattle.scopes.specs.Specified.{counting}
use Rattle.scopes.proofs.Told.{is_first, none_there}
use Rattle.scopes.proofs.exploration_laws.the_first_that_goes_on_is_told.Goals as goal

pub returns-clause-first : goal.returns-clause-first
returns-clause-first c = λ s p n inputs input h. is_first (λ x. is_going_on (verdict_on p n x)) (counting s.precondition n inputs) input h

pub returns-clause-none : goal.returns-clause-none
returns-clause-none c = λ s p n inputs. none_there (going_on p n (counting s.precondition n inputs))
