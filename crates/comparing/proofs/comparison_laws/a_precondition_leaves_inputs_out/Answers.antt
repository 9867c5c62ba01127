use Rattle.std.proofs.Common.{List, ap, length, sym, ℤ}
use Rattle.comparing.specs.Found.{found_of_counting}
use Rattle.scopes.specs.Specified.{counting}
use Rattle.scopes.proofs.Lists.{filter_all}
use Rattle.comparing.proofs.comparison_laws.a_precondition_leaves_inputs_out.Goals as goal

pub returns-clause-found : goal.returns-clause-found
returns-clause-found c = λ w p q k n most inputs.
    ap (λ (xs : List (List ℤ)). found_of_counting p q k n most (length inputs) xs) (sym (filter_all (counting w n inputs)))

pub returns-clause-all : goal.returns-clause-all
returns-clause-all c = λ p q k n most inputs. ap (λ (xs : List (List ℤ)). length xs) (filter_all inputs)
