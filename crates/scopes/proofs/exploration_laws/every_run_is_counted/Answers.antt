use Rattle.pram_meaning.proofs.OneOutcome.{outcome_is_computed}
use Rattle.scopes.specs.Specified.{counting}
use Rattle.scopes.proofs.Told.{counted}
use Rattle.scopes.proofs.exploration_laws.every_run_is_counted.Goals as goal

pub returns-clause-outcome : goal.returns-clause-outcome
returns-clause-outcome c = λ p n input v. outcome_is_computed p input n v

pub returns-clause-once : goal.returns-clause-once
returns-clause-once c = λ s p n inputs. counted p n (counting s.precondition n inputs)
