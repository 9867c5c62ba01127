-- How far a comparison has come.
use Rattle.std.proofs.Common.{◌≡◌, ℕ, ℤ, Option, List, [], ◌∷◌, ◌++◌, ap, sym, ◌∙◌}
use Rattle.std.proofs.lemmas.List.{append_assoc}
use Rattle.pram_check.specs.Checked.{Checked}
use Rattle.comparing.specs.declared.compared.Compared.{Compared}
use Rattle.comparing.specs.Found.{Found, found, with_input}
use Rattle.comparing.proofs.Pushed.{input_added}

-- of the inputs before those that are left, this is found
pub record Gone (w : Option Checked) (p q : Checked) (c : Compared) (n most : ℕ) (all left : List (List ℤ)) (f : Found) : Type 0 where
  pub before : List (List ℤ)
  pub whole : all ≡ before ++ left
  pub are_found : f ≡ found w p q c n most before

-- one input further
pub further : (w : Option Checked) (p q : Checked) (c : Compared) (n most : ℕ) (all left rest : List (List ℤ)) (here : List ℤ)
    (f g : Found) →
    Gone w p q c n most all left f → left ≡ here ∷ rest →
    g ≡ with_input w p q c n most here f → Gone w p q c n most all rest g
further w p q c n most all left rest here f g e is adds = record {
  before = e.before ++ here ∷ [];
  whole = e.whole ∙ ap (λ (ys : List (List ℤ)). e.before ++ ys) is ∙ sym (append_assoc e.before (here ∷ []) rest);
  are_found = adds ∙ ap (with_input w p q c n most here) e.are_found ∙ sym (input_added w p q c n most e.before here);
}
