use Rattle.pram_meaning.proofs.OneOutcome.{outcome_is_computed}
use Rattle.scopes.specs.Specified.{counting}
use Rattle.comparing.proofs.Inputs.{counted}
use Rattle.comparing.proofs.comparison_laws.every_input_is_counted.Goals as goal

pub returns-clause-outcome : goal.returns-clause-outcome
returns-clause-outcome c = λ p n input v. outcome_is_computed p input n v

pub returns-clause-once : goal.returns-clause-once
returns-clause-once c = λ w p q k n most inputs. counted p q k n (counting w n inputs)
