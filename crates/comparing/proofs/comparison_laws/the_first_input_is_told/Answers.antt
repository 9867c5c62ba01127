use Rattle.std.proofs.Common.{length}
use Rattle.scopes.specs.Specified.{counting}
use Rattle.comparing.specs.Found.{differing}
use Rattle.comparing.proofs.Inputs.{first_is, nothing_told, of_taken}
use Rattle.comparing.proofs.comparison_laws.the_first_input_is_told.Goals as goal

pub returns-clause-none : goal.returns-clause-none
returns-clause-none c = λ w p q k n most inputs some. nothing_told p q k n most (length inputs) (counting w n inputs) some

pub returns-clause-first : goal.returns-clause-first
returns-clause-first c = λ w p q k n most inputs d h.
    let xs = counting w n inputs in
    first_is p q k n xs d (of_taken most (differing p q k n xs) 0 d h)
