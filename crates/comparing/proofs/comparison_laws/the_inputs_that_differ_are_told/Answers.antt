use Rattle.std.proofs.Common.{length}
use Rattle.scopes.specs.Specified.{counting}
use Rattle.comparing.specs.Found.{differing}
use Rattle.comparing.proofs.Inputs.{each_is, how_many, of_taken, some_told}
use Rattle.comparing.proofs.comparison_laws.the_inputs_that_differ_are_told.Goals as goal

pub returns-clause-many : goal.returns-clause-many
returns-clause-many c = λ w p q k n most inputs. how_many p q k n most (length inputs) (counting w n inputs)

pub returns-clause-each : goal.returns-clause-each
returns-clause-each c = λ w p q k n most inputs number d h.
    let xs = counting w n inputs in
    each_is p q k n xs number d (of_taken most (differing p q k n xs) number d h)

pub returns-clause-some : goal.returns-clause-some
returns-clause-some c = λ values. some_told values
