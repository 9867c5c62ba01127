use Rattle.std.proofs.Common.{◌∙◌, List, Option, ap, length, ℤ}
use Rattle.pram_check.specs.Checked.{Checked}
use Rattle.scopes.specs.Specified.{counting, failing}
use Rattle.scopes.proofs.Lists.{filter_all, filter_none}
use Rattle.scopes.proofs.specification_laws.without_a_specification_nothing_is_left_out.Goals as goal

pub returns-clause-counting : goal.returns-clause-counting
returns-clause-counting c = λ s p n inputs e.
    ap (λ (q : Option Checked). length (counting q n inputs)) e ∙ ap (λ (xs : List (List ℤ)). length xs) (filter_all inputs)

pub returns-clause-failed : goal.returns-clause-failed
returns-clause-failed c = λ s p n inputs e.
    ap (λ (q : Option Checked). length (failing q p n (counting s.precondition n inputs))) e
    ∙ ap (λ (xs : List (List ℤ)). length xs) (filter_none (counting s.precondition n inputs))
