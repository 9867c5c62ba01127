use Rattle.std.proofs.Common.{List, ap, length, sym, ℤ}
use Rattle.scopes.specs.Found.{found_of_counting}
use Rattle.scopes.specs.Specified.{counting}
use Rattle.scopes.proofs.Lists.{filter_all}
use Rattle.scopes.proofs.specification_laws.a_precondition_leaves_inputs_out.Goals as goal

pub returns : goal.returns
returns c = λ s p n inputs.
    ap (λ (xs : List (List ℤ)). found_of_counting s.postcondition p n (length inputs) xs)
    (sym (filter_all (counting s.precondition n inputs)))
